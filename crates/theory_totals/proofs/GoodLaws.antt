-- Lists of readings that pass their test give only readings that are ones.
-- Assumes nothing.
use mathlib.Core.Path.{◌≡◌, refl}
use mathlib.Core.Bool.{true}
use mathlib.Core.Logic.{⊎_elim}
use mathlib.Core.List.Memᴰ
use mathlib.Core.List.{List, [], ◌∷◌, ◌++◌, Memᴰ}
use Prim.Native.Nat.{ℕ, ◌<◌}
use lib.Dec.{eqb}
use Rattle.lists.specs.Lists.{all_of}
use Rattle.lists.proofs.Cases.{by_test, and_both, and_first, and_second, picked}
use Rattle.lists.proofs.Tests.{all_in, all_out}
use Rattle.cells.specs.Box.{volume}
use Rattle.cells.specs.declared.Triple.{Triple}
use Rattle.cells.specs.Grid.{cells, upper_neighbours, voxel}
use Rattle.cells.proofs.GridLaws.{upper_neighbour, voxel_inside}
use Rattle.labels.proofs.ComponentLaws.{of_order_out}
use Rattle.labels.specs.Components.{of_order}
use Rattle.cutting.specs.Cutting.{Cutting, blocks, good_cut, block_extents}
use Rattle.joiner.proofs.Codes.{lowest_of, local_of, in_lowest}
use Rattle.strains.specs.Readings.{is_good}
use Rattle.strains.specs.declared.Reading.{Reading}
use Rattle.totals.specs.Totals.{Taken, taken, slot_of, reading_at, readings_for}
use Rattle.lowest.specs.Lowest.{starts}
use Rattle.strain_calls.specs.Adding.{gathered, voxel_taken, face_taken}
use Rattle.pass_strain.specs.BlockReadings.{Brought, own_face, cell_taken}
use Rattle.theory_totals.specs.Volume.{taken_at, volume_taken}

-- every reading of a list that is taken is one
abbrev AllGood : List Taken → Type 0
AllGood ts = all_of (λ t. is_good t.reading) ts ≡ true

good_append : (a b : List Taken) → AllGood a → AllGood b → AllGood (a ++ b)
good_append a b h g =
    all_in (λ t. is_good t.reading) (a ++ b)
    (λ t m. ⊎_elim (λ i. all_out (λ t. is_good t.reading) a h i) (λ i. all_out (λ t. is_good t.reading) b g i) (Memᴰ.append_cases a m))

good_gathered : (f : ℕ → List Taken) (ps : List ℕ) → ((p : ℕ) → Memᴰ p ps → AllGood (f p)) → AllGood (gathered f ps)
unfolding gathered
good_gathered f [] h = refl
good_gathered f (p ∷ ps) h = good_append (f p) (gathered f ps) (h p (Memᴰ.head refl)) (good_gathered f ps (λ q m. h q (Memᴰ.tail m)))

good_one : (s : ℕ) (x : Reading) → is_good x ≡ true → AllGood (taken s x ∷ [])
good_one s x h = and_both (is_good x) true h refl

good_voxel : (n low high u : ℕ) (x : Reading) → is_good x ≡ true → AllGood (voxel_taken n low high u x)
unfolding voxel_taken
good_voxel n low high u x h =
    picked AllGood (eqb u 0) [] _ (λ _. refl)
    (λ _. picked AllGood (eqb u low) (taken (slot_of n 0) x ∷ []) _ (λ _. good_one (slot_of n 0) x h) (λ _. picked AllGood (eqb u high) (taken (slot_of n 1) x ∷ []) [] (λ _. good_one (slot_of n 1) x h) (λ _. refl)))

good_cell : (e s : Triple) (g : Brought) (p : ℕ) → p < cells e → ((v : ℕ) → v < volume e → is_good (reading_at g.values g.kinds v) ≡ true) → AllGood (cell_taken e s g p)
unfolding cell_taken face_taken
good_cell e s g p hp h =
    picked AllGood (eqb (own_face e s g p) 0) [] _ (λ _. refl)
    (λ _. good_gathered _ (upper_neighbours e p) (λ q m. good_voxel _ _ _ _ (reading_at g.values g.kinds (voxel e q)) (h (voxel e q) (voxel_inside e q (upper_neighbour e p hp m).within))))

good_for : (s : ℕ) (ts : List Taken) → AllGood ts → all_of is_good (readings_for s ts) ≡ true
unfolding readings_for
good_for s [] h = refl
good_for s (t ∷ ts) h =
    by_test (eqb t.slot s)
    (λ u. rw u (and_both (is_good t.reading) _ (and_first (is_good t.reading) (all_of (λ t. is_good t.reading) ts) h) (good_for s ts (and_second (is_good t.reading) (all_of (λ t. is_good t.reading) ts) h))))
    (λ u. rw u (good_for s ts (and_second (is_good t.reading) (all_of (λ t. is_good t.reading) ts) h)))

-- 12 was not given for any block: all readings that the totals take are ones.
pub readings_good : (k : Cutting) → good_cut k ≡ true → (g : ℕ → Brought) → ((b v : ℕ) → b < blocks k → v < volume (block_extents k b) → is_good (reading_at (g b).values (g b).kinds v) ≡ true)
    → (s : ℕ) → all_of is_good (readings_for s (volume_taken k g)) ≡ true
unfolding volume_taken taken_at
readings_good k good g h s =
    good_for s (gathered (taken_at k g) (of_order k.extents 2))
    (good_gathered (taken_at k g) (of_order k.extents 2)
    (λ t m.
    let o = of_order_out k.extents 2 m in
    let b : ℕ = lowest_of k t in
    let l = in_lowest k good t o.0 in
    good_cell (block_extents k b) (starts k b) (g b) (local_of k t) l.within (λ v hv. h b v l.listed hv)))
