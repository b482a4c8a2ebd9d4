-- A call neither reads nor changes a table that it is not lent.
-- Assumes nothing.
use mathlib.Core.Bool.{not}
use mathlib.Core.List.{List, []}
use mathlib.Core.Path.{◌≡◌, ◌∙◌, ap, refl, sym}
use Prim.Native.Nat.{ℕ, ◌+◌}
use lib.Dec.{eqb}
use lib.ListN.{get_or, set}
use Rattle.refusals.specs.Refusals.{first, given_by, number, stands_in, table}
use Rattle.joiner.specs.Job.{Kind, Face, Curve, Point, Job, Tables, State, ticked, count_of, from_of, node, first_at, lengths_fit, block_trays, link_trays, found_trays, number_trays, first_trays, listed_trays, kind_trays}
use Rattle.joiner.specs.Stages.{next_after}
use Rattle.joiner.specs.Calls.{Call, enrol, join, cross, point, look, reading, Answer, answer, full, overfull}
use Rattle.joiner.specs.Declines.{refusal, declines, stray, map_stands, ways_stand, links_stand, all_links_stand, number_stands, curves_stand, handed_stands, look_stands, counted, standing, rows_stand, last_crossing, adds, final_of, final_row, point_cells}
use Rattle.joiner.specs.Outcomes.{CallStep, Done, Ticked, EnrolDone, SeamDone, CrossingDone, PointDone, KeptFound, NumberedKind, Merged, AtSeam, AtCrossing, block_entry, through_links, joined_row, not_after, class_of, is_one, leads, heads, rank, head_of, row_at, final_face, row_final, cell_number, looked_up, row_taken}
use Rattle.joiner.proofs.Roots.{together_map}
use Rattle.joiner.proofs.Kept.{found_kept, numbers_kept_lem}
use Rattle.joiner.proofs.Later.{move_cross, move_seam}
use Rattle.theory_frames.specs.Frames.{around}

-- ---- what is refused

module _ (e o : Tables) (s : State) where
  pub refusal_same : (c : Call) → refusal (around c e s) c ≡ refusal (around c o s) c
  unfolding refusal given_by first table number stands_in declines stray map_stands ways_stand links_stand all_links_stand number_stands curves_stand handed_stands look_stands counted standing count_of from_of ticked lengths_fit block_trays link_trays found_trays number_trays first_trays listed_trays kind_trays full overfull adds point_cells final_row final_of node rows_stand last_crossing
  refusal_same (enrol b m) = refl
  refusal_same (join b c m n) = refl
  refusal_same (cross b m) = refl
  refusal_same (point b m) = refl
  refusal_same (look b m c) = refl
  refusal_same (reading κ n) = refl

  -- a call that changes none of its own tables changes none
  same_around : (t : State) (c : Call) → around c e t ≡ around c e s → around c o t ≡ around c o s
  same_around t (enrol b m) p = ap (around (enrol b m) o) p
  same_around t (join b c m n) p = ap (around (join b c m n) o) p
  same_around t (cross b m) p = ap (around (cross b m) o) p
  same_around t (point b m) p = ap (around (point b m) o) p
  same_around t (look b m c) p = ap (around (look b m c) o) p
  same_around t (reading κ n) p = ap (around (reading κ n) o) p

  -- ---- what a step reads

  adds_same : (c : Call) (κ : Kind) → adds (around c e s) c κ ≡ adds (around c o s) c κ
  unfolding adds point_cells final_row final_of node from_of
  adds_same (enrol b m) Face = refl
  adds_same (enrol b m) Curve = refl
  adds_same (enrol b m) Point = refl
  adds_same (join b c m n) κ = refl
  adds_same (cross b m) κ = refl
  adds_same (point b m) Face = refl
  adds_same (point b m) Curve = refl
  adds_same (point b m) Point = refl
  adds_same (look b m c) κ = refl
  adds_same (reading κ' n) κ = refl

  seam_same : (b c : ℕ) (m n : List ℕ) (κ : Kind) (x y : ℕ) → AtSeam s.job.told.cutting (around (join b c m n) e s).tables κ b c m n x y
      → AtSeam s.job.told.cutting (around (join b c m n) o s).tables κ b c m n x y
  unfolding node from_of
  seam_same b c m n κ x y = move_seam _ _ (λ d i. refl)

  crossing_same : (b : ℕ) (m : List ℕ) (x y : ℕ) → AtCrossing s.job.told.cutting (around (cross b m) e s).tables b m x y
      → AtCrossing s.job.told.cutting (around (cross b m) o s).tables b m x y
  unfolding node from_of joined_row through_links
  crossing_same b m x y = move_cross _ _ (λ d i. refl) (λ p h i. refl)

merged_same : (before after : List ℕ) (R S : ℕ → ℕ → Type 0) → ((x y : ℕ) → R x y → S x y) → ((x y : ℕ) → S x y → R x y) → Merged before after R → Merged before after S
merged_same before after R S f g M = record {
  size = M.size;
  one = λ x y. ((λ p. together_map f ((M.one x y).0 p)), (λ l. (M.one x y).1 (together_map g l)));
  sound = M.sound;
}

-- ---- what a step does

-- of the tables it reads and changes the ticks
ticked_same : (j j' : Job) (x x' y y' : Tables) (c : Call) (i : ℕ) → x.ticks ≡ y.ticks → x'.ticks ≡ y'.ticks
    → ((κ : Kind) → adds (record { job = j; tables = x }) c κ ≡ adds (record { job = j; tables = y }) c κ)
    → Ticked (record { job = j; tables = x }) (record { job = j'; tables = x' }) c i → Ticked (record { job = j; tables = y }) (record { job = j'; tables = y' }) c i
unfolding ticked
ticked_same j j' x x' y y' c i p q a T =
    record {
      told = T.told;
      ticks = sym q ∙ T.ticks ∙ ap (λ (l : List ℕ). set l i 1) p;
      stage = T.stage ∙ ap (λ (l : List ℕ). next_after j.told.cutting (λ n. not (eqb (get_or l n 0) 0)) j.stage) q;
      sofar = λ κ. T.sofar κ ∙ ap (λ (n : ℕ). j.sofar κ + n) (a κ);
    }

-- the kinds that the last crossing and the last point step number
data Numbers : Call → Kind → Type 0 where
  faces : {b : ℕ} {m : List ℕ} → Numbers (cross b m) Face
  curves : {b : ℕ} {m : List ℕ} → Numbers (cross b m) Curve
  points : {b : ℕ} {m : List ℕ} → Numbers (point b m) Point

module _ (e o : Tables) (s t : State) where
  step_same : (c : Call) (i : ℕ) → (around c e s).tables.ticks ≡ (around c o s).tables.ticks → (around c e t).tables.ticks ≡ (around c o t).tables.ticks
      → Ticked (around c e s) (around c e t) c i → Ticked (around c o s) (around c o t) c i
  step_same c i p q = ticked_same s.job t.job _ _ _ _ c i p q (adds_same e o s c)

  enrolled_same : (b : ℕ) (m : List ℕ) → EnrolDone (around (enrol b m) e s) b m (around (enrol b m) e t) → EnrolDone (around (enrol b m) o s) b m (around (enrol b m) o t)
  unfolding adds block_entry
  enrolled_same b m D =
      record {
        step = step_same (enrol b m) _ refl refl D.step;
        blocks = D.blocks;
        faces = record { links = D.faces.links; keys = D.faces.keys; rows = D.faces.rows };
        curves = record { links = D.curves.links; keys = D.curves.keys; rows = D.curves.rows };
        points = found_kept refl;
        numbers = λ κ. numbers_kept_lem (D.numbers κ).numbered refl;
      }

  joined_same : (b c : ℕ) (m n : List ℕ) → SeamDone (around (join b c m n) e s) b c m n (around (join b c m n) e t)
      → SeamDone (around (join b c m n) o s) b c m n (around (join b c m n) o t)
  joined_same b c m n D =
      record {
        step = step_same (join b c m n) _ refl refl D.step;
        blocks = D.blocks;
        faces = merged_same _ _ _ _ (seam_same e o s b c m n Face) (seam_same o e s b c m n Face) D.faces;
        curves = merged_same _ _ _ _ (seam_same e o s b c m n Curve) (seam_same o e s b c m n Curve) D.curves;
        found = λ κ. found_kept refl;
        numbers = λ κ. numbers_kept_lem (D.numbers κ).numbered refl;
      }

  numbered_same : (c : Call) (κ : Kind) (n : ℕ) → Numbers c κ → NumberedKind (around c e s) (around c e t) κ n → NumberedKind (around c o s) (around c o t) κ n
  unfolding heads rank head_of leads is_one class_of not_after first_at row_final row_at final_face
  numbered_same _ _ n faces N = record { total = N.total; numbers = N.numbers; firsts = N.firsts; listed = N.listed; firsts_long = N.firsts_long; listed_long = N.listed_long }
  numbered_same _ _ n curves N = record { total = N.total; numbers = N.numbers; firsts = N.firsts; listed = N.listed; firsts_long = N.firsts_long; listed_long = N.listed_long }
  numbered_same _ _ n points N = record { total = N.total; numbers = N.numbers; firsts = N.firsts; listed = N.listed; firsts_long = N.firsts_long; listed_long = N.listed_long }

  found_same : (b : ℕ) (m : List ℕ) → ((κ : Kind) → KeptFound (around (cross b m) e s) (around (cross b m) e t) κ)
      → (κ : Kind) → KeptFound (around (cross b m) o s) (around (cross b m) o t) κ
  found_same b m K Face = record { keys = (K Face).keys; rows = (K Face).rows }
  found_same b m K Curve = record { keys = (K Curve).keys; rows = (K Curve).rows }
  found_same b m K Point = found_kept refl

  crossed_same : (b : ℕ) (m : List ℕ) → CrossingDone (around (cross b m) e s) b m (around (cross b m) e t) → CrossingDone (around (cross b m) o s) b m (around (cross b m) o t)
  crossed_same b m D =
      record {
        step = step_same (cross b m) _ refl refl D.step;
        blocks = D.blocks;
        faces = D.faces;
        curves = merged_same _ _ _ _ (crossing_same e o s b m) (crossing_same o e s b m) D.curves;
        found = found_same b m D.found;
        last = λ p. (numbered_same (cross b m) Face _ faces (D.last p).0, numbered_same (cross b m) Curve _ curves (D.last p).1);
        before = λ p. let K = D.before p in (
          record { numbered = K.0.numbered; numbers = K.0.numbers; firsts = K.0.firsts; listed = K.0.listed },
          record { numbered = K.1.numbered; numbers = K.1.numbers; firsts = K.1.firsts; listed = K.1.listed },
        );
        points = numbers_kept_lem D.points.numbered refl;
      }

  pointed_same : (b : ℕ) (m : List ℕ) → PointDone (around (point b m) e s) b m (around (point b m) e t) → PointDone (around (point b m) o s) b m (around (point b m) o t)
  unfolding adds point_cells final_row final_of node from_of
  pointed_same b m D =
      record {
        step = step_same (point b m) _ refl refl D.step;
        blocks = D.blocks;
        face_links = refl;
        curve_links = refl;
        faces = (found_kept refl, numbers_kept_lem D.faces.1.numbered refl);
        curves = (found_kept refl, record { numbered = D.curves.1.numbered; numbers = D.curves.1.numbers; firsts = refl; listed = refl });
        keys = D.keys;
        rows = D.rows;
        last = λ p. numbered_same (point b m) Point _ points (D.last p);
        before = λ p. let K = D.before p in record { numbered = K.numbered; numbers = K.numbers; firsts = K.firsts; listed = K.listed };
      }

  done_same : (c : Call) (a : Answer) → Done (around c e s) c a (around c e t) → Done (around c o s) c a (around c o t)
  unfolding looked_up cell_number final_of node from_of row_taken
  done_same (enrol b m) a D = (D.0, enrolled_same b m D.1)
  done_same (join b c m n) a D = (D.0, joined_same b c m n D.1)
  done_same (cross b m) a D = (D.0, crossed_same b m D.1)
  done_same (point b m) a D = (D.0, pointed_same b m D.1)
  done_same (look b m c) a D = (D.0, same_around e o s t (look b m c) D.1)
  done_same (reading Face n) a D = (D.0, same_around e o s t (reading Face n) D.1)
  done_same (reading Curve n) a D = (D.0, same_around e o s t (reading Curve n) D.1)
  done_same (reading Point n) a D = (D.0, same_around e o s t (reading Point n) D.1)

  -- The framing law: what a call does with some tables around its own, it does with any.
  pub framed : (c : Call) (a : Answer) → CallStep (around c e s) c a (around c e t) → CallStep (around c o s) c a (around c o t)
  framed c a S =
      let p = refusal_same e o s c in
      record {
        told = S.told ∙ p;
        declined = λ n. let d = S.declined (λ z. n (sym p ∙ z)) in (d.0 ∙ ap (λ (r : ℕ). answer r 0 []) p, same_around e o s t c d.1);
        accepted = λ z. done_same c a (S.accepted (p ∙ z));
      }
