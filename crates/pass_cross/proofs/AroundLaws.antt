-- The upper neighbours of a cell by strides: their numbers have places, and their rows can be read.
-- Assumes nothing.
use Rattle.std.proofs.Common.{Option, Some, None}
use mathlib.Core.List.{List, [], ◌∷◌, ◌++◌, Memᴰ}
use mathlib.Core.Path.{◌≡◌, refl, ap, ◌∙◌}
use Prim.Native.Nat.{ℕ, suc, ◌+◌, ◌-◌, ◌≤◌, ◌<◌}
use native.Mathlib.Omega.{arith}
use lib.Dec.{eqb}
use lib.ListN.{length, get_or}
use borrow.Author.Tests.{eqb-true, eqb-false}
use Rattle.lists.proofs.Cases.{by_test}
use Rattle.union_find.specs.Links.{root}
use Rattle.cells.specs.declared.Triple.{Triple}
use Rattle.cells.specs.Grid.{cells, order, upper_neighbours}
use Rattle.cells.specs.Row.{pad_to, numbers_at}
use Rattle.cells.proofs.GridLaws.{upper_neighbour}
use Rattle.labels.specs.Components.{largest}
use Rattle.labels.proofs.CountLaws.{largest_bound}
use Rattle.lines.specs.Lines.{odds, around}
use Rattle.lines.proofs.LineLaws.{up_around, flank_at, strided_two, strided_three, Reads, reads}
use Rattle.pass_cross.specs.CrossEdges.{Room}
use Rattle.pass_cross.specs.Inner.{Read, strides_of, rows_along, cell_row, cell_rows, pad_rows, Readable, Near, Beside, Meeting}
use Rattle.pass_cross.proofs.ReadLaws.{kept_roots, kept_then}

-- The number of an upper neighbour has a place.
pub number_in : (e : Triple) (m : List ℕ) (t from size : ℕ) {q : ℕ} → t < cells e → Room e m (suc (order e t)) from size → Memᴰ q (upper_neighbours e t) → from + get_or m q 0 ≤ size
number_in e m t from size {q} h R i =
    let u = upper_neighbour e t h i in
    omega (arith, largest_bound e m q u.within, ap (largest e m) u.higher, R.most)

-- the cells one stride down and up stand among those around
around_in : (p : ℕ) (pre : List ℕ) (s : ℕ) (post : List ℕ) → Memᴰ (p - s) (around p (pre ++ s ∷ post)) × Memᴰ (p + s) (around p (pre ++ s ∷ post))
unfolding around
around_in p [] s post = (Memᴰ.head refl, Memᴰ.tail (Memᴰ.head refl))
around_in p (r ∷ pre) s post = let i = around_in p pre s post in (Memᴰ.tail (Memᴰ.tail i.0), Memᴰ.tail (Memᴰ.tail i.1))

module _ (e : Triple) (m : List ℕ) (from size : ℕ) (whole : length m ≡ cells e) where
  module _ (p : ℕ) (h : p < cells e) (pre : List ℕ) (s : ℕ) (post : List ℕ) (o : odds e p ≡ pre ++ s ∷ post) where
    down_up : Memᴰ (p - s) (upper_neighbours e p) × Memᴰ (p + s) (upper_neighbours e p)
    down_up = rw (up_around e p, o) (around_in p pre s post)

    readable_at : Room e m (suc (order e p)) from size → Readable m p s from size
    readable_at R =
        let f = flank_at e p h pre s post o in
        record { low = f.low; high = omega (arith, f.high); down = number_in e m p from size h R down_up.0; up = number_in e m p from size h R down_up.1 }

  near_at : (p : ℕ) → p < cells e → (x : ℕ) (y : Option ℕ) → odds e p ≡ strides_of x y → Room e m (suc (order e p)) from size → Near m p x y from size
  unfolding strides_of
  near_at p h x (Some y) o R =
      record { here = omega arith; first = readable_at p h [] x (y ∷ []) o R; second = λ s q. let i : y ≡ s = cc in rw (← i) (readable_at p h (x ∷ []) y [] o R); fits = R.fits }
  near_at p h x None o R =
      record { here = omega arith; first = readable_at p h [] x [] o R; second = λ s q. absurd (cc); fits = R.fits }

  module _ (t : ℕ) (h : t < cells e) (pre : List ℕ) (s : ℕ) (post : List ℕ) (o : odds e t ≡ pre ++ s ∷ post) (x : ℕ) (y : Option ℕ) (k : pre ++ post ≡ strides_of x y) where
    -- The rows one stride down and up from t can be read.
    pub beside_at : Room e m (suc (suc (order e t))) from size → Beside m t s x y from size
    beside_at R =
        let f = flank_at e t h pre s post o in
        let i = down_up t h pre s post o in
        let u = upper_neighbour e t h i.0 in
        let v = upper_neighbour e t h i.1 in
        record {
          low = f.low;
          down = near_at (t - s) u.within x y (f.below ∙ k) (rw u.higher R);
          up = near_at (t + s) v.within x y (f.above ∙ k) (rw v.higher R);
        }

    -- They are those of the cells there.
    pub rows_cells : (g : ℕ → ℕ) → rows_along m g from t s (strides_of x y) ≡ cell_row e m g from (t - s) ∷ cell_row e m g from (t + s) ∷ []
    unfolding rows_along cell_row
    rows_cells g = let f = flank_at e t h pre s post o in rw (up_around e (t - s), up_around e (t + s), f.below, f.above, k)

pub beside_kept : (m a b : List ℕ) (t s x : ℕ) (y : Option ℕ) (from : ℕ) (u v : List (List ℕ)) → Beside m t s x y from (length a) → Read a b u v
    → Beside m t s x y from (length b)
beside_kept m a b t s x y from u v B K = rw K.kept.size B

-- ---- cells with two odd axes, and with three

module _ (e : Triple) (m : List ℕ) (n t a w b : ℕ) (M : Meeting e m n t a w b) where
  two_odd : n ≡ 2 → odds e t ≡ a ∷ b ∷ []
  two_odd k = strided_two M.strided k

  three_odd : ¬ (n ≡ 2) → odds e t ≡ a ∷ w ∷ b ∷ []
  three_odd k = strided_three M.strided (λ h. omega (arith, M.many)) k

  -- The numbers along each axis can be read.
  on_axis : (s : ℕ) (pre post : List ℕ) → odds e t ≡ pre ++ s ∷ post → Reads m t s
  on_axis s pre post o = reads e m t M.whole M.inside pre s post o

  pub first_in_lem : Reads m t a
  first_in_lem = by_test (eqb n 2) (λ k. on_axis a [] (b ∷ []) (two_odd (eqb-true n 2 k))) (λ k. on_axis a [] (w ∷ b ∷ []) (three_odd (eqb-false n 2 k)))

  pub last_in_lem : Reads m t b
  last_in_lem = by_test (eqb n 2) (λ k. on_axis b (a ∷ []) [] (two_odd (eqb-true n 2 k))) (λ k. on_axis b (a ∷ w ∷ []) [] (three_odd (eqb-false n 2 k)))

  pub middle_in : ¬ (n ≡ 2) → Reads m t w
  middle_in k = on_axis w (a ∷ []) (b ∷ []) (three_odd k)

  -- The numbers in six places.
  module _ (us vs : List ℕ) (x : us ≡ get_or m (t - a) 0 ∷ get_or m (t + a) 0 ∷ []) (y : vs ≡ get_or m (t - b) 0 ∷ get_or m (t + b) 0 ∷ []) where
    pub numbers_two : n ≡ 2 → get_or us 0 0 ∷ get_or us 1 0 ∷ get_or vs 0 0 ∷ get_or vs 1 0 ∷ 0 ∷ 0 ∷ [] ≡ pad_to 6 (numbers_at m (upper_neighbours e t))
    unfolding around
    numbers_two k = rw (up_around e t, two_odd k, x, y)

    pub numbers_three : (ws : List ℕ) → ¬ (n ≡ 2) → ws ≡ get_or m (t - w) 0 ∷ get_or m (t + w) 0 ∷ []
        → get_or us 0 0 ∷ get_or us 1 0 ∷ get_or ws 0 0 ∷ get_or ws 1 0 ∷ get_or vs 0 0 ∷ get_or vs 1 0 ∷ [] ≡ pad_to 6 (numbers_at m (upper_neighbours e t))
    unfolding around
    numbers_three ws k z = rw (up_around e t, three_odd k, x, y, z)

  -- The rows along each axis can be read.
  module _ (from size : ℕ) (R : Room e m (suc (suc (order e t))) from size) where
    pub two_first : n ≡ 2 → Beside m t a b None from size
    unfolding strides_of
    two_first k = beside_at e m from size M.whole t M.inside [] a (b ∷ []) (two_odd k) b None refl R

    pub two_last : n ≡ 2 → Beside m t b a None from size
    unfolding strides_of
    two_last k = beside_at e m from size M.whole t M.inside (a ∷ []) b [] (two_odd k) a None refl R

    pub three_first : ¬ (n ≡ 2) → Beside m t a w (Some b) from size
    unfolding strides_of
    three_first k = beside_at e m from size M.whole t M.inside [] a (w ∷ b ∷ []) (three_odd k) w (Some b) refl R

    pub three_middle : ¬ (n ≡ 2) → Beside m t w a (Some b) from size
    unfolding strides_of
    three_middle k = beside_at e m from size M.whole t M.inside (a ∷ []) w (b ∷ []) (three_odd k) a (Some b) refl R

    pub three_last : ¬ (n ≡ 2) → Beside m t b a (Some w) from size
    unfolding strides_of
    three_last k = beside_at e m from size M.whole t M.inside (a ∷ w ∷ []) b [] (three_odd k) a (Some w) refl R

    -- The rows in six places.
    module _ (c d f g : List ℕ) (us vs ws : List (List ℕ)) where
      -- what two readings along an axis give
      along : (k l : List ℕ) (rs : List (List ℕ)) (pre : List ℕ) (s : ℕ) (post : List ℕ) → odds e t ≡ pre ++ s ∷ post → (x : ℕ) (y : Option ℕ) → pre ++ post ≡ strides_of x y
          → Read k l rs (rows_along m (root k) from t s (strides_of x y)) → rs ≡ cell_row e m (root k) from (t - s) ∷ cell_row e m (root k) from (t + s) ∷ []
      along k l rs pre s post o x y q P = P.is ∙ rows_cells e m from size M.whole t M.inside pre s post o x y q (root k)

      pub rows_around_two : n ≡ 2 → Read c d us (rows_along m (root c) from t a (strides_of b None)) → Read d f vs (rows_along m (root d) from t b (strides_of a None))
          → Read c f (get_or us 0 [] ∷ get_or us 1 [] ∷ get_or vs 0 [] ∷ get_or vs 1 [] ∷ pad_to 6 [] ∷ pad_to 6 [] ∷ []) (pad_rows 6 (cell_rows e m (root c) from (upper_neighbours e t)))
      unfolding cell_rows around strides_of
      rows_around_two k P Q =
          let o = two_odd k in
          record {
            is = rw (up_around e t, o, along c d us [] a (b ∷ []) o b None refl P, along d f vs (a ∷ []) b [] o a None refl Q, kept_roots P.kept);
            kept = kept_then P.kept Q.kept;
          }

      pub rows_around_three : ¬ (n ≡ 2) → Read c d us (rows_along m (root c) from t a (strides_of w (Some b))) → Read d f vs (rows_along m (root d) from t w (strides_of a (Some b)))
          → Read f g ws (rows_along m (root f) from t b (strides_of a (Some w)))
          → Read c g (get_or us 0 [] ∷ get_or us 1 [] ∷ get_or vs 0 [] ∷ get_or vs 1 [] ∷ get_or ws 0 [] ∷ get_or ws 1 [] ∷ []) (pad_rows 6 (cell_rows e m (root c) from (upper_neighbours e t)))
      unfolding cell_rows around strides_of
      rows_around_three k P Q S =
          let o = three_odd k in
          let K = kept_then P.kept Q.kept in
          record {
            is = rw (up_around e t, o, along c d us [] a (w ∷ b ∷ []) o w (Some b) refl P, along d f vs (a ∷ []) w (b ∷ []) o a (Some b) refl Q, along f g ws (a ∷ w ∷ []) b [] o a (Some w) refl S, kept_roots K, kept_roots P.kept);
            kept = kept_then K S.kept;
          }
