-- The numbers in a row are at most the largest of the order above.
-- Assumes nothing.
use mathlib.Core.Bool.{Bool}
use mathlib.Core.List.{List, Memᴰ, [], ◌∷◌, map}
use mathlib.Core.Path.{ap, refl, subst}
use Prim.Native.Nat.{◌<◌, ◌≤◌, max, suc, zero, ℕ}
use native.Mathlib.Omega.{arith}
use lib.ListN.{get_or}
use Rattle.lists.specs.Lists.{keep}
use Rattle.cells.specs.declared.Triple.{Triple}
use Rattle.cells.specs.Grid.{cells, order, upper_neighbours}
use Rattle.cells.specs.Row.{insert_ascending, once, pad_to, row, row_of, sort_ascending}
use Rattle.labels.specs.Components.{component, component_row, largest, row_at_first}
use Rattle.lists.proofs.Cases.{picked}
use Rattle.cells.proofs.GridLaws.{Upper, upper_neighbour}
use Rattle.labels.proofs.ComponentLaws.{Belongs, component_out}
use Rattle.labels.proofs.CountLaws.{largest_bound}

abbrev AtMost : ℕ → List ℕ → Type 0
AtMost M [] = Unit {0}
AtMost M (x ∷ l) = (x ≤ M) × AtMost M l

most_insert : (M x : ℕ) (l : List ℕ) → x ≤ M → AtMost M l → AtMost M (insert_ascending x l)
most_insert M x [] h b = (h, tt)
most_insert M x (y ∷ l) h b = (omega (arith, h, b.0), most_insert M (max x y) l (omega (arith, h, b.0)) b.1)

most_sort : (M : ℕ) (l : List ℕ) → AtMost M l → AtMost M (sort_ascending l)
most_sort M [] b = tt
most_sort M (x ∷ l) b = most_insert M x (sort_ascending l) b.0 (most_sort M l b.1)

most_keep : (M : ℕ) (f : ℕ → Bool) (l : List ℕ) → AtMost M l → AtMost M (keep f l)
most_keep M f [] b = tt
most_keep M f (x ∷ l) b = picked (AtMost M) (f x) (x ∷ keep f l) (keep f l) (λ t. (b.0, most_keep M f l b.1)) (λ t. most_keep M f l b.1)

most_pad : (M n : ℕ) (l : List ℕ) (i : ℕ) → AtMost M l → get_or (pad_to n l) i 0 ≤ M
most_pad M zero l i b = omega arith
most_pad M (suc n) [] zero b = omega arith
most_pad M (suc n) [] (suc i) b = most_pad M n [] i b
most_pad M (suc n) (x ∷ l) zero b = b.0
most_pad M (suc n) (x ∷ l) (suc i) b = most_pad M n l i b.1

most_map : (M : ℕ) (f : ℕ → ℕ) (l : List ℕ) → ((q : ℕ) → Memᴰ q l → f q ≤ M) → AtMost M (map f l)
most_map M f [] h = tt
most_map M f (x ∷ l) h = (h x (Memᴰ.head refl), most_map M f l (λ q m. h q (Memᴰ.tail m)))

row_most : (e : Triple) (m : List ℕ) (p i : ℕ) → p < cells e → get_or (row e m p) i 0 ≤ largest e m (suc (order e p))
unfolding row row_of
row_most e m p i h =
    let M : ℕ = largest e m (suc (order e p)) in
    let xs : List ℕ = map (λ q. get_or m q 0) (upper_neighbours e p) in
    most_pad M 6 (sort_ascending (keep (once xs) xs)) i
    (most_sort M (keep (once xs) xs) (most_keep M (once xs) xs
    (most_map M (λ q. get_or m q 0) (upper_neighbours e p) (λ q k. let u : Upper e p q = upper_neighbour e p h k in omega (arith, largest_bound e m q u.within, ap (largest e m) u.higher)))))

pub component_row_most : (e : Triple) (m : List ℕ) (j n i : ℕ) → get_or (component_row e m j n) i 0 ≤ largest e m (suc j)
unfolding component_row row_at_first row_of
component_row_most e m j n i = go (component e m j n) (λ p h. component_out e m j n h)
  where
    go : (l : List ℕ) → ((p : ℕ) → Memᴰ p l → Belongs e m j n p) → get_or (row_at_first e m l) i 0 ≤ largest e m (suc j)
    go [] h = most_pad (largest e m (suc j)) 6 [] i tt
    go (p ∷ l) h =
        let b : Belongs e m j n p = h p (Memᴰ.head refl) in
        let g : get_or (row e m p) i 0 ≤ largest e m (suc (order e p)) = row_most e m p i b.within in
        subst (λ (x : ℕ). get_or (row e m p) i 0 ≤ largest e m (suc x)) b.level g
