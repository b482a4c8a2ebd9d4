-- Two blocks that hold one cell of the volume are connected by seams between blocks that hold it.
-- Assumes nothing.
use mathlib.Core.Path.{◌≡◌, refl, sym, ap, ◌∙◌, subst}
use mathlib.Core.Bool.{Bool, true, ◌&&◌, ◌||◌, true≢false}
use mathlib.Core.Logic.{◌⊎◌, inl, inr, ◌≢◌}
use mathlib.Core.List.{List, [], ◌∷◌}
use Prim.Native.Nat.{ℕ, zero, suc, ◌%◌, ◌<◌}
use native.Mathlib.Omega.{arith}
use lib.Dec.{eqb, ltb}
use lib.ListN.{get_or, length}
use borrow.Author.Tests.{eqb-true, eqb-false, eq-eqb, ltb-true, ltb-false, lt-ltb}
use Rattle.cells.specs.Box.{triple, coord, index, place}
use Rattle.cells.specs.declared.Axis.{Axis}
use Rattle.cells.specs.declared.Axis.TheVariants.{X, Y, Z}
use Rattle.cells.specs.declared.Triple.{Triple}
use Rattle.cells.specs.Grid.{sides, parity, order}
use Rattle.cutting.specs.Cutting.{Cutting, cuts, ascends, cut_list, intervals, low_end, high_end, block_sides, blocks, good_cut, interval, follows, same_interval, seam}
use Rattle.cutting.specs.Nodes.{BlockHas, SeamPath, stay, next, last}
use Rattle.lists.proofs.Cases.{by_test, and_second, and_both, or_on_left, or_on_right}
use Rattle.cells.proofs.BoxLaws.{Inside, index_place, place_index, place_inside, raised, same_triple}
use Rattle.cutting.proofs.CutLaws.{step_up, step_rest, cut_on, Spans, has_spans, spans_has, block_in, interval_at, interval_is, block_sides_on}

-- ---- one axis: two intervals that hold one coordinate are equal or neighbours

ascends_above : (n c : ℕ) (l : List ℕ) → ascends n c l ≡ true → (i : ℕ) → i < length l → c < get_or l i 0
ascends_above n c [] t i h = absurd (omega arith)
ascends_above n c (d ∷ l) t zero h = step_up n c d l t
ascends_above n c (d ∷ l) t (suc i) h = omega (arith, step_up n c d l t, ascends_above n d l (step_rest n c d l t) i (omega arith))

later : (n c : ℕ) (l : List ℕ) → ascends n c l ≡ true → (i j : ℕ) → suc i < j → j < intervals (c ∷ l) → high_end (c ∷ l) i < low_end (c ∷ l) j
unfolding intervals low_end high_end
later n c [] t i j h k = absurd (omega arith)
later n c (d ∷ l) t zero zero h k = absurd (omega arith)
later n c (d ∷ l) t zero (suc zero) h k = absurd (omega arith)
later n c (d ∷ l) t zero (suc (suc j)) h k = ascends_above n d l (step_rest n c d l t) j (omega arith)
later n c (d ∷ l) t (suc i) zero h k = absurd (omega arith)
later n c (d ∷ l) t (suc i) (suc j) h k = later n d l (step_rest n c d l t) i j (omega arith) (omega arith)

cut_later : (n : ℕ) (c : List ℕ) → cut_list n c ≡ true → (i j : ℕ) → suc i < j → j < intervals c → high_end c i < low_end c j
unfolding cut_list
cut_later n [] t i j h k = absurd (true≢false (sym t))
cut_later n (c ∷ l) t i j h k = later n c l (and_second (eqb c 0) (ascends n c l) t) i j h k

-- equal, the next, or the one before
abbrev Near : ℕ → ℕ → Type 0
Near i j = (j ≡ i) ⊎ ((j ≡ suc i) ⊎ (i ≡ suc j))

near : (n : ℕ) (c : List ℕ) → cut_list n c ≡ true → (i j x : ℕ) → i < intervals c → j < intervals c → Spans c i x → Spans c j x → Near i j
near n c t i j x hi hj u v =
    by_test (ltb (suc i) j) (λ f. absurd (omega (arith, cut_later n c t i j (ltb-true (suc i) j f) hj, u.below, v.above)))
    (λ f.
    by_test (ltb (suc j) i) (λ g. absurd (omega (arith, cut_later n c t j i (ltb-true (suc j) i g) hi, v.below, u.above)))
    (λ g.
    by_test (eqb j i) (λ e. inl (eqb-true j i e))
    (λ e.
    by_test (eqb j (suc i)) (λ d. inr (inl (eqb-true j (suc i) d)))
    (λ d.
    let e' : j ≢ i = eqb-false j i e in
    let d' : j ≢ suc i = eqb-false j (suc i) d in
    inr (inr (omega (arith, ltb-false (suc i) j f, ltb-false (suc j) i g)))))))

-- ---- three axes

-- a block and the next one along an axis are a seam
pub seam_raised : (k : Cutting) (b c : ℕ) (a : Axis) → b < blocks k → c < blocks k → ((d : Axis) → interval k c d ≡ coord (raised a (place (block_sides k) b)) d) → seam k b c ≡ true
unfolding seam follows same_interval interval raised
seam_raised k b c a hb hc h = and_both (ltb b (blocks k) && ltb c (blocks k)) _ (and_both (ltb b (blocks k)) (ltb c (blocks k)) (lt-ltb b (blocks k) hb) (lt-ltb c (blocks k) hc)) (go a h)
  where
    F : Axis → Bool
    F d = follows k b c d

    L : Axis → Bool
    L d = same_interval k b c d

    go : (a : Axis) → ((d : Axis) → interval k c d ≡ coord (raised a (place (block_sides k) b)) d) → ((F X && L Y && L Z) || (L X && F Y && L Z) || (L X && L Y && F Z)) ≡ true
    go X h = or_on_left ((F X && L Y && L Z) || (L X && F Y && L Z)) (L X && L Y && F Z) (or_on_left (F X && L Y && L Z) (L X && F Y && L Z) (and_both (F X && L Y) (L Z) (and_both (F X) (L Y) (eq-eqb _ _ (h X)) (eq-eqb _ _ (h Y))) (eq-eqb _ _ (h Z))))
    go Y h = or_on_left ((F X && L Y && L Z) || (L X && F Y && L Z)) (L X && L Y && F Z) (or_on_right (F X && L Y && L Z) (L X && F Y && L Z) (and_both (L X && F Y) (L Z) (and_both (L X) (F Y) (eq-eqb _ _ (h X)) (eq-eqb _ _ (h Y))) (eq-eqb _ _ (h Z))))
    go Z h = or_on_right ((F X && L Y && L Z) || (L X && F Y && L Z)) (L X && L Y && F Z) (and_both (L X && L Y) (F Z) (and_both (L X) (L Y) (eq-eqb _ _ (h X)) (eq-eqb _ _ (h Y))) (eq-eqb _ _ (h Z)))

module _ (k : Cutting) (good : good_cut k ≡ true) (t : ℕ) where
  -- on each axis, the intervals of a block at a place span the cell's coordinate
  FitsSpans : Triple → Type 0
  FitsSpans m = (a : Axis) → Spans (cuts k a) (coord m a) (coord (place (sides k.extents) t) a)

  has_at : (m : Triple) → Inside (block_sides k) m → FitsSpans m → BlockHas k (index (block_sides k) m) t
  unfolding FitsSpans
  has_at m i f =
      spans_has k good (index (block_sides k) m) (block_in k m i) t
      (λ a. subst (λ (n : ℕ). Spans (cuts k a) n (coord (place (sides k.extents) t) a)) (sym (interval_at k m i a)) (f a))

  fits_of : (b : ℕ) → b < blocks k → BlockHas k b t → FitsSpans (place (block_sides k) b)
  unfolding FitsSpans
  fits_of b hb h a = subst (λ (n : ℕ). Spans (cuts k a) n (coord (place (sides k.extents) t) a)) (interval_is k b a) (has_spans k good b hb t h a)

  place_of : (m : Triple) → Inside (block_sides k) m → place (block_sides k) (index (block_sides k) m) ≡ m
  place_of m i = same_triple _ _ (place_index (block_sides k) m (i X) (i Y))

  hop : (a : Axis) (m n : Triple) → Inside (block_sides k) m → Inside (block_sides k) n → FitsSpans n → (n ≡ m) ⊎ ((n ≡ raised a m) ⊎ (m ≡ raised a n)) → {d : ℕ}
      → SeamPath k t (index (block_sides k) n) d → SeamPath k t (index (block_sides k) m) d
  hop a m n i j f (inl e) {d} l = subst (λ (x : Triple). SeamPath k t (index (block_sides k) x) d) e l
  hop a m n i j f (inr (inl e)) l =
      next (block_in k n j)
      (seam_raised k (index (block_sides k) m) (index (block_sides k) n) a (block_in k m i) (block_in k n j)
      (λ d. interval_at k n j d ∙ ap (λ (x : Triple). coord x d) (e ∙ ap (raised a) (sym (place_of m i)))))
      (has_at n j f) l
  hop a m n i j f (inr (inr e)) l =
      last (block_in k n j)
      (seam_raised k (index (block_sides k) n) (index (block_sides k) m) a (block_in k n j) (block_in k m i)
      (λ d. interval_at k m i d ∙ ap (λ (x : Triple). coord x d) (e ∙ ap (raised a) (sym (place_of n j)))))
      (has_at n j f) l

  pub seam_path : (b c : ℕ) → b < blocks k → c < blocks k → BlockHas k b t → BlockHas k c t → SeamPath k t b c
  unfolding FitsSpans raised blocks
  seam_path b c hb hc u v =
      subst (λ (x : ℕ). SeamPath k t x c) (index_place (block_sides k) b)
      (hop X m m1 m_in m1_in m1_fits (to_x (at X))
      (hop Y m1 m2 m1_in m2_in m2_fits (to_y (at Y))
      (hop Z m2 n m2_in n_in n_fits (to_z (at Z)) (subst (SeamPath k t (index (block_sides k) n)) (index_place (block_sides k) c) stay))))
    where
      m : Triple
      m = place (block_sides k) b

      n : Triple
      n = place (block_sides k) c

      m1 : Triple
      m1 = triple n.x m.y m.z

      m2 : Triple
      m2 = triple n.x n.y m.z

      m_in : Inside (block_sides k) m
      m_in = place_inside (block_sides k) b hb

      n_in : Inside (block_sides k) n
      n_in = place_inside (block_sides k) c hc

      m1_in : Inside (block_sides k) m1
      m1_in = elim [ X ↦ n_in X | Y ↦ m_in Y | Z ↦ m_in Z ]

      m2_in : Inside (block_sides k) m2
      m2_in = elim [ X ↦ n_in X | Y ↦ n_in Y | Z ↦ m_in Z ]

      m_fits : FitsSpans m
      m_fits = fits_of b hb u

      n_fits : FitsSpans n
      n_fits = fits_of c hc v

      m1_fits : FitsSpans m1
      m1_fits = elim [ X ↦ n_fits X | Y ↦ m_fits Y | Z ↦ m_fits Z ]

      m2_fits : FitsSpans m2
      m2_fits = elim [ X ↦ n_fits X | Y ↦ n_fits Y | Z ↦ m_fits Z ]

      at : (a : Axis) → Near (coord m a) (coord n a)
      at a =
          near (coord k.extents a) (cuts k a) (cut_on k good a) (coord m a) (coord n a) (coord (place (sides k.extents) t) a)
          (omega (arith, m_in a, block_sides_on k a)) (omega (arith, n_in a, block_sides_on k a)) (m_fits a) (n_fits a)

      to_x : Near m.x n.x → (m1 ≡ m) ⊎ ((m1 ≡ raised X m) ⊎ (m ≡ raised X m1))
      to_x (inl e) = inl (ap (λ (i : ℕ). triple i m.y m.z) e)
      to_x (inr (inl e)) = inr (inl (ap (λ (i : ℕ). triple i m.y m.z) e))
      to_x (inr (inr e)) = inr (inr (ap (λ (i : ℕ). triple i m.y m.z) e))

      to_y : Near m.y n.y → (m2 ≡ m1) ⊎ ((m2 ≡ raised Y m1) ⊎ (m1 ≡ raised Y m2))
      to_y (inl e) = inl (ap (λ (i : ℕ). triple n.x i m.z) e)
      to_y (inr (inl e)) = inr (inl (ap (λ (i : ℕ). triple n.x i m.z) e))
      to_y (inr (inr e)) = inr (inr (ap (λ (i : ℕ). triple n.x i m.z) e))

      to_z : Near m.z n.z → (n ≡ m2) ⊎ ((n ≡ raised Z m2) ⊎ (m2 ≡ raised Z n))
      to_z (inl e) = inl (ap (λ (i : ℕ). triple n.x n.y i) e)
      to_z (inr (inl e)) = inr (inl (ap (λ (i : ℕ). triple n.x n.y i) e))
      to_z (inr (inr e)) = inr (inr (ap (λ (i : ℕ). triple n.x n.y i) e))

-- ---- a point cell lies in one block only

meeting_ends : (n c : ℕ) (l : List ℕ) → ascends n c l ≡ true → (i : ℕ) → suc i < intervals (c ∷ l) → high_end (c ∷ l) i ≡ low_end (c ∷ l) (suc i)
unfolding intervals low_end high_end
meeting_ends n c [] t i h = absurd (omega arith)
meeting_ends n c (d ∷ l) t zero h = refl
meeting_ends n c (d ∷ l) t (suc i) h = meeting_ends n d l (step_rest n c d l t) i (omega arith)

pub cut_ends : (n : ℕ) (c : List ℕ) → cut_list n c ≡ true → (i : ℕ) → suc i < intervals c → high_end c i ≡ low_end c (suc i)
unfolding cut_list
cut_ends n [] t i h = absurd (true≢false (sym t))
cut_ends n (c ∷ l) t i h = meeting_ends n c l (and_second (eqb c 0) (ascends n c l) t) i h

-- an odd coordinate lies in one interval only
odd_interval : (n : ℕ) (c : List ℕ) → cut_list n c ≡ true → (i j x : ℕ) → i < intervals c → j < intervals c → Spans c i x → Spans c j x → 0 < x % 2 → i ≡ j
odd_interval n c t i j x hi hj u v o = go (near n c t i j x hi hj u v)
  where
    go : Near i j → i ≡ j
    go (inl e) = sym e
    go (inr (inl e)) = absurd (omega (arith, cut_ends n c t i (omega arith), ap (low_end c) e, u.below, v.above))
    go (inr (inr e)) = absurd (omega (arith, cut_ends n c t j (omega arith), ap (low_end c) e, v.below, u.above))

pub point_block : (k : Cutting) → good_cut k ≡ true → (t b c : ℕ) → order k.extents t ≡ 0 → b < blocks k → c < blocks k → BlockHas k b t → BlockHas k c t → b ≡ c
unfolding order parity blocks FitsSpans
point_block k good t b c o hb hc u v = sym (index_place (block_sides k) b) ∙ ap (index (block_sides k)) (same_triple m n same) ∙ index_place (block_sides k) c
  where
    m : Triple
    m = place (block_sides k) b

    n : Triple
    n = place (block_sides k) c

    odd_on : (a : Axis) → 0 < coord (place (sides k.extents) t) a % 2
    odd_on X = omega arith
    odd_on Y = omega arith
    odd_on Z = omega arith

    same : (a : Axis) → coord m a ≡ coord n a
    same a =
        odd_interval (coord k.extents a) (cuts k a) (cut_on k good a) (coord m a) (coord n a) (coord (place (sides k.extents) t) a)
        (omega (arith, place_inside (block_sides k) b hb a, block_sides_on k a)) (omega (arith, place_inside (block_sides k) c hc a, block_sides_on k a))
        (fits_of k good t b hb u a) (fits_of k good t c hc v a) (odd_on a)
