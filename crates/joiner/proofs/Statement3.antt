-- Statement 3, whole.
-- Assumes nothing.
use mathlib.Core.Bool.{false, not, true}
use mathlib.Core.List.Memᴰ
use mathlib.Core.List.{List}
use mathlib.Core.Path.{◌∙◌, ◌≡◌, ap, refl}
use Prim.Native.Nat.{◌<◌, ℕ}
use native.Mathlib.Omega.{arith}
use lib.Dec.{eqb}
use lib.ListN.{get_or, length}
use borrow.Author.Tests.{not-false}
use Rattle.lists.specs.Lists.{is_in}
use Rattle.lists.proofs.Lists.{length-zeros, zeros_at}
use Rattle.refusals.specs.declared.Refusal.{Refusal}
use Rattle.refusals.specs.Refusals.{number, stands_in}
use Rattle.cells.specs.Extents.{off_size}
use Rattle.cutting.specs.Cutting.{block_extents, blocks, good_cut}
use Rattle.joiner.specs.Book.{begun}
use Rattle.joiner.specs.Outcomes.{Opened, all_trays, open_declines, open_refusal}
use Rattle.joiner.specs.Job.{Curve, Face, Kind, Point, State, Tables, Told, lengths_fit, ticked}
use Rattle.joiner.specs.Statement.{Labelling, Statement3}
use Rattle.refusals.proofs.RefusalLaws.{given_none}
use Rattle.joiner.proofs.Inv.{Inv, Kept}
use Rattle.joiner.proofs.Progress.{progress_start}
use Rattle.joiner.proofs.Simulation.{Sim, measured}
use Rattle.joiner.proofs.Sizes.{Sizes, sizes_of_lem}

-- what an accepted opening passed
pub opened_passed : (o : Told) (lent : Tables) → open_refusal o lent ≡ 0 → (off_size 1024 o.cutting.extents ≡ false) × (good_cut o.cutting ≡ true) × (lengths_fit (all_trays o lent) ≡ true)
unfolding open_refusal open_declines stands_in number
opened_passed o lent r =
    let n : (z : Refusal) → stands_in (open_declines o lent) z ≡ false = (given_none (stands_in (open_declines o lent))).0 r in
    (n Refusal.OffSize, not-false _ (n Refusal.BadCut), not-false _ (n Refusal.WrongTray))

-- the book and the service at the start
module _ (o : Told) (lent : Tables) (s : State) (own : ℕ → List ℕ) (P : Opened o lent s) where
  started_sizes : Sizes o s.tables
  started_sizes =
      let z : Sizes o lent = sizes_of_lem o lent (opened_passed o lent P.accepted).2 in
      let C = P.tables in
      record {
        ticks_long = ap length C.ticks ∙ length-zeros (length lent.ticks) ∙ z.ticks_long;
        blocks_long = ap length C.blocks ∙ z.blocks_long;
        face_links = ap length (C.links Face) ∙ z.face_links;
        curve_links = ap length (C.links Curve) ∙ z.curve_links;
        keys_long = λ κ. ap length (C.keys κ) ∙ z.keys_long κ;
        rows_long = λ κ. ap length (C.rows κ) ∙ z.rows_long κ;
        numbers_long = λ κ. ap length (C.numbers κ) ∙ z.numbers_long κ;
        firsts_long = λ κ. ap length (C.firsts κ) ∙ z.firsts_long κ;
        listed_long = λ κ. ap length (C.listed κ) ∙ z.listed_long κ;
      }

  kept_empty : (κ : Kind) → Kept o own (begun o) s κ
  unfolding begun
  kept_empty κ =
      record {
        from_in = λ b hb i. absurd (Memᴰ.not-nil i);
        cover = λ x h. absurd (omega (arith, P.fresh.sofar κ));
        seen = λ b m hb i h0 hm. absurd (Memᴰ.not-nil i);
        rows = λ b m i hb j h0 hm hi. absurd (Memᴰ.not-nil j);
        linked = record { one = λ x y hx hy. absurd (omega (arith, P.fresh.sofar κ)); sound = λ x h. absurd (omega (arith, P.fresh.sofar κ)) };
      }

  started : Inv o own (begun o) s
  unfolding begun ticked is_in
  started =
      record {
        told = P.told;
        btold = refl;
        stage = P.fresh.stage;
        ticks = λ i. ap (λ (l : List ℕ). not (eqb (get_or l i 0) 0)) P.tables.ticks ∙ ap (λ (x : ℕ). not (eqb x 0)) (zeros_at (length lent.ticks) i);
        sizes = started_sizes;
        sofar = P.fresh.sofar;
        room = λ κ. omega arith;
        numbered = λ κ. omega (arith, P.fresh.numbered κ);
        progress = progress_start o.cutting;
        maps = λ b hb i. absurd (Memᴰ.not-nil i);
        counts = λ κ b hb i. absurd (Memᴰ.not-nil i);
        faces = kept_empty Face;
        curves = kept_empty Curve;
        layers = λ b c z m. absurd (Memᴰ.not-nil m);
      }

-- the book and the service at the start
pub begun_sim : (o : Told) (lent : Tables) (s : State) (own : ℕ → List ℕ) (P : Opened o lent s) (lab : (b : ℕ) → b < blocks o.cutting → Labelling (block_extents o.cutting b) (own b))
    → Sim o own (opened_passed o lent P.accepted).0 (opened_passed o lent P.accepted).1 lab (begun o) s
unfolding begun
begun_sim o lent s own P lab =
    record {
      inv = started o lent s own P;
      final_two = λ h. absurd (omega arith);
      no_points = λ h. P.fresh.sofar Point;
      some_points = λ h. absurd (omega arith);
      all_points = λ h. absurd (omega arith);
    }

pub statement3 : Statement3
statement3 o lent s own es P lab R F =
    let p = opened_passed o lent P.accepted in
    measured o own p.0 p.1 lab (begun o) s es (begun_sim o lent s own P lab) R F
