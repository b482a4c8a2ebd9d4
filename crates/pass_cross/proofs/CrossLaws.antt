-- What the crossing pass has joined: at a cell, and turn by turn.
-- Assumes nothing.
use mathlib.Core.List.{List, [], ◌∷◌, ◌++◌, Memᴰ}
use mathlib.Core.Path.{◌≡◌, refl, sym, ap, ◌∙◌}
use Prim.Native.Nat.{ℕ, zero, suc, ◌+◌, ◌-◌, ◌*◌, ◌≤◌, ◌<◌}
use native.Mathlib.Omega.{arith}
use lib.ListN.{length, get_or}
use Rattle.closure.specs.Joined.{Edge, joins}
use Rattle.union_find.specs.Links.{root, Rooted}
use Rattle.union_find.proofs.LinkLaws.{Left, left_all, left_fewer, left_none, rooted_refl}
use Rattle.cells.specs.declared.Triple.{Triple}
use Rattle.cells.specs.Grid.{cells, order, upper_neighbours}
use Rattle.cells.specs.Row.{pad_to, numbers_at}
use Rattle.cells.proofs.GridLaws.{length_up}
use Rattle.lines.specs.Lines.{line_count, StridedAt}
use Rattle.lines.specs.declared.StridedLine.{StridedLine}
use Rattle.lines.proofs.WalkLaws.{cell_within, cell_walks, walk_inside, walk_order, walk_strided}
use Rattle.pass_cross.specs.CrossEdges.{cross_at, Room, Trays, Crossed}
use Rattle.pass_cross.specs.Inner.{Read, cell_rows, pad_rows, count_active, edges_among, CellTrays}
use Rattle.pass_cross.proofs.ReadLaws.{kept_roots, kept_then}
use Rattle.pass_cross.proofs.AroundLaws.{number_in}
use Rattle.pass_cross.proofs.EdgeLaws.{few_idle, among_cells}

-- ---- at a cell

-- the numbers in six places, 0 among them, have places
pad_in : (m : List ℕ) (from size n : ℕ) (us : List ℕ) → from ≤ size → ((q : ℕ) → Memᴰ q us → from + get_or m q 0 ≤ size) → (k : ℕ)
    → from + get_or (pad_to n (numbers_at m us)) k 0 ≤ size
pad_in m from size zero us h w k = omega arith
pad_in m from size (suc n) [] h w zero = omega arith
pad_in m from size (suc n) [] h w (suc k) = pad_in m from size n [] h w k
pad_in m from size (suc n) (q ∷ us) h w zero = w q (Memᴰ.head refl)
pad_in m from size (suc n) (q ∷ us) h w (suc k) = pad_in m from size n us h (λ p i. w p (Memᴰ.tail i)) k

module _ (e : Triple) (m : List ℕ) (t : ℕ) (xs : List ℕ) (numbers : xs ≡ pad_to 6 (numbers_at m (upper_neighbours e t))) where
  pub numbers_fit : (from size : ℕ) → t < cells e → Room e m (suc (order e t)) from size → (k : ℕ) → from + get_or xs k 0 ≤ size
  numbers_fit from size h R k = rw numbers (pad_in m from size 6 (upper_neighbours e t) (omega (arith, R.most)) (λ q i. number_in e m t from size h R i) k)

  module _ (start from : ℕ) (a l : List ℕ) where
    -- the edges at t, by the numbers and rows in six places
    at_cell : edges_among from xs (pad_rows 6 (cell_rows e m (root a) start (upper_neighbours e t))) ≡ cross_at e m (root a) start from t
    unfolding cross_at
    at_cell = rw numbers (among_cells e m (root a) start from 6 (upper_neighbours e t) (omega (arith, length_up e t)))

    -- Fewer than two active cells: nothing is joined.
    pub cross_idle : (k : ℕ) → k ≡ count_active xs → k < 2 → Crossed a a l l (cross_at e m (root a) start from t)
    cross_idle k c h =
        let none = sym at_cell ∙ few_idle from xs (pad_rows 6 (cell_rows e m (root a) start (upper_neighbours e t))) (omega arith) in
        record { kept = rooted_refl a; joined = rw none (left_none (left_all l [])) }

    pub cross_joined : (b k : List ℕ) (rs : List (List ℕ)) → Read a b rs (pad_rows 6 (cell_rows e m (root a) start (upper_neighbours e t)))
        → Rooted l k (joins (root l) (edges_among from xs rs)) → Crossed a b l k (cross_at e m (root a) start from t)
    cross_joined b k rs R J = record { kept = R.kept; joined = rw (← at_cell, ← R.is) J }

-- ---- a loop that joins the edges of a list

-- The links of the order above have kept their roots, and the edges ds are still to join.
pub record StillToCross (above above' links links' : List ℕ) (es ds : List Edge) : Type 0 where
  pub kept : Rooted above above' (root above)
  pub left : Left links links' es ds

pub rest_all : (a l : List ℕ) (es : List Edge) → StillToCross a a l l es es
rest_all a l es = record { kept = rooted_refl a; left = left_all l es }

-- The first edges are joined: those that g gives for the roots of the order above, which are the same at each turn.
pub rest_fewer : {a b c l k n : List ℕ} {es : List Edge} (g : (ℕ → ℕ) → List Edge) {ds : List Edge} → StillToCross a b l k es (g (root a) ++ ds) → Crossed b c k n (g (root b)) → StillToCross a c l n es ds
rest_fewer g R C =
    record { kept = kept_then R.kept C.kept; left = left_fewer (g (root _)) R.left (rw (ap g (kept_roots R.kept)) at C.joined) }

pub rest_none : {a b l k : List ℕ} {es : List Edge} → StillToCross a b l k es [] → Crossed a b l k es
rest_none R = record { kept = R.kept; joined = left_none R.left }

-- The tables still fit the block.
pub trays_kept : {e : Triple} {m a b l k : List ℕ} {j start from : ℕ} {es ds : List Edge} → Trays e m j a start l from → StillToCross a b l k es ds → Trays e m j b start k from
trays_kept T R = record {
  sized = T.sized;
  whole = T.whole;
  low = T.low;
  high = T.high;
  upper = rw R.kept.size T.upper;
  own = rw R.left.size T.own;
}

-- ---- the cells of a line

-- The k-th cell of line l, where components of order j meet.
pub line_cross : {e : Triple} {m a links : List ℕ} {j start from l k : ℕ} {r : StridedLine} → Trays e m j a start links from → StridedAt e (4 - j) l r → l < line_count e → k < r.line.count
    → CellTrays e m (4 - j) (r.line.base + (r.line.start + 2 * k)) r.strides.first r.strides.middle r.strides.last (length a) start (length links) from
line_cross {e} {j = j} {k = k} {r = r} T S h g =
    let x = r.line.start + 2 * k in
    let i : x < r.line.width = cell_within S.line g in
    let W = cell_walks S.line k in
    let o : order e (r.line.base + x) ≡ j - 1 = walk_order S.line x i W ∙ omega (arith, T.low) in
    let s : suc (j - 1) ≡ j = omega (arith, T.low) in
    record {
      at = record { whole = T.whole; inside = walk_inside S.line _ i h; many = omega (arith, T.high); strided = walk_strided S W i (omega (arith, T.high)) };
      upper = rw (o, s) T.upper;
      own = rw (o, s) T.own;
    }
