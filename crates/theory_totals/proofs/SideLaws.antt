-- The readings that a face cell adds for a side of its face are those of the voxels on that side.
-- Assumes nothing.
use mathlib.Core.Path.{◌≡◌, refl, sym, ap, ap₂, ◌∙◌}
use mathlib.Core.Bool.{Bool, true, false, not, cond, ◌&&◌}
use mathlib.Core.Logic.{◌≢◌}
use mathlib.Core.List.{List, [], ◌∷◌, ◌++◌, map, map-append}
use Prim.Native.Nat.{ℕ, zero, suc, ◌-◌, ◌*◌, ◌+◌, ◌≤◌, ◌<◌}
use native.Mathlib.Omega.{arith}
use lib.Dec.{eqb}
use lib.ListN.{get_or}
use lib.Ieee.{Float}
use borrow.Author.Tests.{eqb-true, eqb-false, eq-eqb, ne_eqb, not-true}
use Rattle.lists.specs.Lists.{keep}
use Rattle.lists.proofs.Cases.{by_test, and_first}
use Rattle.lists.proofs.Lists.{keep_append}
use Rattle.cells.specs.declared.Triple.{Triple}
use Rattle.cells.specs.Grid.{upper_neighbours, voxel}
use Rattle.cells.specs.Row.{row, numbers_at}
use Rattle.cells.proofs.RowFacts.{first_two_apart}
use Rattle.strains.specs.declared.Reading.{Reading}
use Rattle.totals.specs.Totals.{Taken, slot_of, reading_at, readings_for}
use Rattle.strain_calls.specs.Adding.{gathered, voxel_taken, face_taken}
use Rattle.pass_strain.specs.BlockReadings.{Brought, own_face, cell_taken}
use Rattle.theory_totals.specs.Book.{on_side}

-- ---- one voxel

-- A voxel of number u is on the side where a row has x. The outside is on none.
abbrev pub is_on : ℕ → ℕ → Bool
is_on x u = not (eqb u 0) && eqb u x

slot_apart : (n n' t side : ℕ) → 0 < n → 0 < n' → t ≤ 1 → side ≤ 1 → n ≢ n' → eqb (slot_of n t) (slot_of n' side) ≡ false
unfolding slot_of
slot_apart n n' t side h h' ht hs d = ne_eqb (2 * (n - 1) + t) (2 * (n' - 1) + side) (λ q. d (omega arith))

side_apart : (n t side : ℕ) → t ≢ side → eqb (slot_of n t) (slot_of n side) ≡ false
unfolding slot_of
side_apart n t side d = ne_eqb (2 * (n - 1) + t) (2 * (n - 1) + side) (λ q. d (omega arith))

pub on_nonzero : (x u : ℕ) → is_on x u ≡ true → u ≢ 0
on_nonzero x u t = eqb-false u 0 (not-true (eqb u 0) (and_first (not (eqb u 0)) (eqb u x) t))

-- A voxel of number u beside a cell of face n with row r: its reading goes to the side where the row has u, unless u is 0 ..
own_voxel : (n u : ℕ) (r : List ℕ) (x : Reading) (side : ℕ) → side ≤ 1 → (get_or r 0 0 ≡ get_or r 1 0 → get_or r 0 0 ≡ 0)
    → readings_for (slot_of n side) (voxel_taken n (get_or r 0 0) (get_or r 1 0) u x) ≡ cond (is_on (get_or r side 0) u) (x ∷ []) []
unfolding voxel_taken readings_for
own_voxel n u r x zero hs d =
    by_test (eqb u 0)
    (λ z. rw z refl)
    (λ z. by_test (eqb u (get_or r 0 0))
    (λ a. rw (z, a, eq-eqb (slot_of n 0) (slot_of n 0) refl) refl)
    (λ a. by_test (eqb u (get_or r 1 0)) (λ b. rw (z, a, b, side_apart n 1 0 (λ q. omega arith)) refl) (λ b. rw (z, a, b) refl)))
own_voxel n u r x (suc zero) hs d =
    by_test (eqb u 0)
    (λ z. rw z refl)
    (λ z. by_test (eqb u (get_or r 0 0))
    (λ a.
    let f : u ≡ get_or r 0 0 = eqb-true u (get_or r 0 0) a in
    let b : eqb u (get_or r 1 0) ≡ false = ne_eqb u (get_or r 1 0) (λ q. eqb-false u 0 z (f ∙ d (sym f ∙ q))) in
    rw (z, a, b, side_apart n 0 1 (λ q. omega arith)) refl)
    (λ a. by_test (eqb u (get_or r 1 0)) (λ b. rw (z, a, b, eq-eqb (slot_of n 1) (slot_of n 1) refl) refl) (λ b. rw (z, a, b) refl)))
own_voxel n u r x (suc (suc side)) hs d = absurd (omega arith)

-- .. and to no other face.
other_voxel : (n n' low high u : ℕ) (x : Reading) (side : ℕ) → 0 < n → 0 < n' → side ≤ 1 → n ≢ n' → readings_for (slot_of n' side) (voxel_taken n low high u x) ≡ []
unfolding voxel_taken readings_for
other_voxel n n' low high u x side h h' hs d =
    by_test (eqb u 0)
    (λ z. rw z refl)
    (λ z. by_test (eqb u low)
    (λ a. rw (z, a, slot_apart n n' 0 side h h' (omega arith) hs d) refl)
    (λ a. by_test (eqb u high) (λ b. rw (z, a, b, slot_apart n n' 1 side h h' (omega arith) hs d) refl) (λ b. rw (z, a, b) refl)))

-- ---- one face cell

pub for_split : (s : ℕ) (a b : List Taken) → readings_for s (a ++ b) ≡ readings_for s a ++ readings_for s b
unfolding readings_for
for_split s a b =
    ap (map (λ t. t.reading)) (keep_append (λ t. eqb t.slot s) a b) ∙ map-append (λ t. t.reading) (keep (λ t. eqb t.slot s) a) (keep (λ t. eqb t.slot s) b)

pub for_none : (s : ℕ) → readings_for s [] ≡ []
unfolding readings_for
for_none s = refl

module _ (e : Triple) (m : List ℕ) (values : List Float) (kinds : List ℕ) (n p side : ℕ) (hs : side ≤ 1) where
  abbrev reading : ℕ → Reading
  reading q = reading_at values kinds (voxel e q)

  abbrev added : ℕ → List Taken
  added q = voxel_taken n (get_or (row e m p) 0 0) (get_or (row e m p) 1 0) (get_or m q 0) (reading q)

  abbrev on_it : ℕ → Bool
  on_it q = is_on (get_or (row e m p) side 0) (get_or m q 0)

  apart : get_or (row e m p) 0 0 ≡ get_or (row e m p) 1 0 → get_or (row e m p) 0 0 ≡ 0
  unfolding row
  apart = first_two_apart (numbers_at m (upper_neighbours e p))

  own_voxels : (qs : List ℕ) → readings_for (slot_of n side) (gathered added qs) ≡ map reading (keep on_it qs)
  unfolding gathered
  own_voxels [] = for_none (slot_of n side)
  own_voxels (q ∷ qs) =
      for_split (slot_of n side) (added q) (gathered added qs)
      ∙ ap₂ (λ (a b : List Reading). a ++ b) (own_voxel n (get_or m q 0) (row e m p) (reading q) side hs apart) (own_voxels qs)
      ∙ by_test (on_it q) (λ t. rw t refl) (λ t. rw t refl)

  -- the readings for a side of the face that the cell shows are those of the voxels on it
  pub own_side : readings_for (slot_of n side) (face_taken e m values kinds n p) ≡ map reading (on_side e m side p)
  unfolding face_taken on_side
  own_side = own_voxels (upper_neighbours e p)

  -- .. and none for another face
  module _ (n' : ℕ) (h : 0 < n) (h' : 0 < n') (d : n ≢ n') where
    other_voxels : (qs : List ℕ) → readings_for (slot_of n' side) (gathered added qs) ≡ []
    unfolding gathered
    other_voxels [] = for_none (slot_of n' side)
    other_voxels (q ∷ qs) =
        for_split (slot_of n' side) (added q) (gathered added qs)
        ∙ ap₂ (λ (a b : List Reading). a ++ b) (other_voxel n n' (get_or (row e m p) 0 0) (get_or (row e m p) 1 0) (get_or m q 0) (reading q) side h h' hs d) (other_voxels qs)

    pub other_side : readings_for (slot_of n' side) (face_taken e m values kinds n p) ≡ []
    unfolding face_taken
    other_side = other_voxels (upper_neighbours e p)

-- ---- whether the cell shows a face

pub cell_zero : (e s : Triple) (g : Brought) (p : ℕ) → own_face e s g p ≡ 0 → cell_taken e s g p ≡ []
unfolding cell_taken
cell_zero e s g p z = rw (eq-eqb (own_face e s g p) 0 z)

pub cell_other : (e s : Triple) (g : Brought) (p n : ℕ) → own_face e s g p ≡ n → n ≢ 0 → cell_taken e s g p ≡ face_taken e g.numbered g.values g.kinds n p
unfolding cell_taken
cell_other e s g p n f w = rw (f, ne_eqb n 0 w)
