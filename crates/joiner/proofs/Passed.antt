-- What an accepted call passed: every test of the table of refusals, and what follows for lengths, tallies and places.
-- Assumes nothing.
use mathlib.Core.Bool.{true, false, ◌&&◌, ◌||◌}
use mathlib.Core.List.{List, [], ◌∷◌}
use mathlib.Core.Logic.{◌≢◌}
use mathlib.Core.Path.{◌≡◌, refl, sym, ap, ◌∙◌}
use Prim.Native.Nat.{ℕ, zero, suc, ◌+◌, ◌≤◌, ◌<◌}
use native.Mathlib.Omega.{arith}
use lib.Dec.{eqb, leb, ltb}
use lib.ListN.{get_or}
use borrow.Author.Tests.{eqb-true, eqb-false, leb-true, ltb-false, not-false}
use Rattle.refusals.specs.declared.Refusal.{Refusal}
use Rattle.refusals.specs.Refusals.{number, stands_in}
use Rattle.cells.specs.declared.Triple.{Triple}
use Rattle.cells.specs.Extents.{off_size}
use Rattle.cells.specs.Grid.{cells, order}
use Rattle.labels.specs.Components.{largest}
use Rattle.joiner.specs.Job.{Kind, Face, Curve, Point, order_of, Stage, Enrol, Seam, Crossing, Points, Closed, stage_number, same_stage, Job, State, ticked, Tray, tray, lengths_fit, count_of, from_of, node}
use Rattle.joiner.specs.Calls.{Call, stage_of, repeated, placed, maps_fit, layers_differ, full, overfull}
use Rattle.joiner.specs.Declines.{adds, counted, cut_for, declines, lent_to, map_stands, refusal, standing, stands_for, stray, tallies_fit, tally_fits}
use Rattle.lists.proofs.Cases.{and_first, and_second, neither}
use Rattle.refusals.proofs.RefusalLaws.{given_none}
use Rattle.labels.proofs.CountLaws.{largest_bound}

-- ---- stages by number

stage_at : ℕ → Stage
stage_at zero = Enrol
stage_at (suc zero) = Seam
stage_at (suc (suc zero)) = Crossing
stage_at (suc (suc (suc zero))) = Points
stage_at (suc (suc (suc (suc n)))) = Closed

stage_at_lem : (s : Stage) → stage_at (stage_number s) ≡ s
unfolding stage_at
stage_at_lem Enrol = refl
stage_at_lem Seam = refl
stage_at_lem Crossing = refl
stage_at_lem Points = refl
stage_at_lem Closed = refl

pub stage_same : (s t : Stage) → stage_number s ≡ stage_number t → s ≡ t
stage_same s t e = sym (stage_at_lem s) ∙ ap stage_at e ∙ stage_at_lem t

-- a test of stages
pub is_stage : (s t : Stage) → same_stage s t ≡ true → s ≡ t
unfolding same_stage
is_stage s t e = stage_same s t (eqb-true _ _ e)

pub not_stage : (s t : Stage) → same_stage s t ≡ false → s ≢ t
unfolding same_stage
not_stage s t e q = eqb-false (stage_number s) (stage_number t) e (ap stage_number q)

-- ---- the tests

pub record Passed (s : State) (c : Call) : Type 0 where
  pub on_size : off_size 1024 s.job.told.cutting.extents ≡ false
  pub cut : cut_for s c ≡ true
  pub stage : s.job.stage ≡ stage_of c
  pub placed_in : placed s.job.told.cutting s.job.numbered c ≡ true
  pub fresh : repeated s.job.told.cutting (ticked s.tables) c ≡ false
  pub maps : maps_fit s.job.told.cutting c ≡ true
  pub lent : lengths_fit (lent_to s.job.told s.tables c) ≡ true
  pub tallies : tallies_fit s.job ≡ true
  pub stands : stands_for s c ≡ true
  pub layers : layers_differ s.job.told.cutting c ≡ false
  pub room : full s.job.told.entries s.job.sofar (adds s c) ≡ false

pub passed : (s : State) (c : Call) → refusal s c ≡ 0 → Passed s c
unfolding refusal declines stands_in number stray
passed s c e =
    let n : (r : Refusal) → stands_in (declines s c) r ≡ false = (given_none (stands_in (declines s c))).0 e in
    let t : (maps_fit s.job.told.cutting c && lengths_fit (lent_to s.job.told s.tables c)) ≡ true = not-false _ (n Refusal.WrongTray) in
    let w : (tallies_fit s.job && stands_for s c) ≡ true = not-false _ (n Refusal.StrayLabel) in
    record {
      on_size = n Refusal.OffSize;
      cut = not-false _ (n Refusal.BadCut);
      stage = is_stage s.job.stage (stage_of c) (not-false _ (n Refusal.WrongStage));
      placed_in = not-false _ (n Refusal.NoSuchPlace);
      fresh = n Refusal.DoneAlready;
      maps = and_first (maps_fit s.job.told.cutting c) (lengths_fit (lent_to s.job.told s.tables c)) t;
      lent = and_second (maps_fit s.job.told.cutting c) (lengths_fit (lent_to s.job.told s.tables c)) t;
      tallies = and_first (tallies_fit s.job) (stands_for s c) w;
      stands = and_second (tallies_fit s.job) (stands_for s c) w;
      layers = n Refusal.LayersDiffer;
      room = n Refusal.TableFull;
    }

-- ---- lengths

-- The table at place i of a list of lent ones has its stated length.
pub fits_at_lem : (ts : List Tray) (i : ℕ) → lengths_fit ts ≡ true → (get_or ts i (tray 0 0)).has ≡ (get_or ts i (tray 0 0)).states
unfolding lengths_fit
fits_at_lem [] i e = refl
fits_at_lem (t ∷ ts) zero e = eqb-true _ _ (and_first (eqb t.has t.states) (lengths_fit ts) e)
fits_at_lem (t ∷ ts) (suc i) e = fits_at_lem ts i (and_second (eqb t.has t.states) (lengths_fit ts) e)

-- ---- tallies

each_fits : (j : Job) → tallies_fit j ≡ true → (κ : Kind) → tally_fits j κ ≡ true
unfolding tallies_fit
each_fits j e Face = and_first (tally_fits j Face) (tally_fits j Curve && tally_fits j Point) e
each_fits j e Curve = and_first (tally_fits j Curve) (tally_fits j Point) (and_second (tally_fits j Face) (tally_fits j Curve && tally_fits j Point) e)
each_fits j e Point = and_second (tally_fits j Curve) (tally_fits j Point) (and_second (tally_fits j Face) (tally_fits j Curve && tally_fits j Point) e)

pub tally_fits_lem : (j : Job) → tallies_fit j ≡ true → (κ : Kind) → j.sofar κ ≤ j.told.entries κ
unfolding tally_fits
tally_fits_lem j e κ = leb-true _ _ (and_first (leb (j.sofar κ) (j.told.entries κ)) (leb (j.numbered κ) (j.told.entries κ)) (each_fits j e κ))

pub numbered_fits : (j : Job) → tallies_fit j ≡ true → (κ : Kind) → j.numbered κ ≤ j.told.entries κ
unfolding tally_fits
numbered_fits j e κ = leb-true _ _ (and_second (leb (j.sofar κ) (j.told.entries κ)) (leb (j.numbered κ) (j.told.entries κ)) (each_fits j e κ))

-- Found points and new ones have room.
pub points_room : (entries sofar more : Kind → ℕ) → full entries sofar more ≡ false → sofar Point + more Point ≤ entries Point
unfolding full overfull
points_room entries sofar more e =
    ltb-false _ _
    (neither (ltb (entries Curve) (sofar Curve + more Curve)) (ltb (entries Point) (sofar Point + more Point))
    (neither (ltb (entries Face) (sofar Face + more Face)) (ltb (entries Curve) (sofar Curve + more Curve) || ltb (entries Point) (sofar Point + more Point)) e).1).1

-- ---- places

-- Block b's components of a kind, as a map numbers them, have places in their table.
pub record Standing (s : State) (e : Triple) (b : ℕ) (m : List ℕ) (κ : Kind) : Type 0 where
  pub most : largest e m (order_of κ) ≤ count_of s.tables κ b
  pub behind : from_of s.tables κ b + count_of s.tables κ b ≤ s.job.told.entries κ

pub faces_stand_lem : (s : State) (e : Triple) (b : ℕ) (m : List ℕ) → map_stands s e b m ≡ true → Standing s e b m Face
unfolding map_stands counted standing
faces_stand_lem s e b m h =
    let h2 = and_second (counted s.tables e b m Face) _ h in
    let h3 = and_second (counted s.tables e b m Curve) _ h2 in
    let h4 = and_second (counted s.tables e b m Point) _ h3 in
    record { most = leb-true _ _ (and_first (counted s.tables e b m Face) _ h); behind = leb-true _ _ (and_first (standing s b Face) (standing s b Curve) h4) }

pub curves_stand_lem : (s : State) (e : Triple) (b : ℕ) (m : List ℕ) → map_stands s e b m ≡ true → Standing s e b m Curve
unfolding map_stands counted standing
curves_stand_lem s e b m h =
    let h2 = and_second (counted s.tables e b m Face) _ h in
    let h3 = and_second (counted s.tables e b m Curve) _ h2 in
    let h4 = and_second (counted s.tables e b m Point) _ h3 in
    record { most = leb-true _ _ (and_first (counted s.tables e b m Curve) _ h2); behind = leb-true _ _ (and_second (standing s b Face) (standing s b Curve) h4) }

pub node_in : (s : State) (e : Triple) (b : ℕ) (m : List ℕ) (κ : Kind) → Standing s e b m κ → (p : ℕ) → p < cells e → order e p ≡ order_of κ → get_or m p 0 ≢ 0
    → node s.tables κ b (get_or m p 0) < s.job.told.entries κ
unfolding node
node_in s e b m κ S p h o n = omega (arith, largest_bound e m p h, ap (largest e m) o, S.most, S.behind, n)
