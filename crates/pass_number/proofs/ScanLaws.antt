-- The laws of a scan: what one cell makes of it, what is ahead on a line, and that the cells of all lines make the numbered map and clear the links.
-- Assumes nothing.
use mathlib.Core.Path.{◌≡◌, refl, sym, ap, ◌∙◌}
use mathlib.Core.Bool.{Bool, true, false}
use mathlib.Core.Logic.{◌≢◌}
use mathlib.Core.List.{List, [], ◌∷◌, ◌++◌, append_assoc}
use Prim.Native.Nat.{ℕ, zero, suc, ◌+◌, ◌*◌, ◌≤◌, ◌<◌}
use native.Mathlib.Nat.{add-zero, mul-le-mul_right}
use native.Mathlib.Numerals.{add-one}
use native.Mathlib.Omega.{arith}
use lib.Dec.{eqb, ltb}
use lib.ListN.{length, get_or, set, drop}
use lib.Seq.{drop-cons}
use borrow.Author.Tests.{eqb-true, eqb-false, eq-eqb, ne_eqb, ltb-true, ltb-false}
use Rattle.lists.specs.Lists.{consecutive, tabulate, keep, zeros}
use Rattle.lists.proofs.Cases.{by_test, and_first}
use Rattle.lists.proofs.Lists.{tabulate_snoc, tabulate_zeros, front_more, front_all, front_done, front_rest}
use Rattle.closure.specs.Joined.{rep}
use Rattle.closure.specs.Numbered.{count_below, leader, label}
use Rattle.closure.proofs.Numbers.{count_hit, count_miss, Leaders, label_off, label_leader, label_same}
use Rattle.union_find.specs.Links.{parent}
use Rattle.union_find.proofs.LinkLaws.{parent_low, root_own, own_root, root_up}
use Rattle.union_find.proofs.SoundLaws.{root_linkless}
use Rattle.cells.specs.declared.Triple.{Triple}
use Rattle.cells.specs.Grid.{sides, cells, order}
use Rattle.cells.specs.Row.{row, active, occupied}
use Rattle.labels.specs.Number.{edges, active_of, number, numbered_at, numbered}
use Rattle.labels.proofs.NumberLaws.{rep_leaders, rep_active, rep_inactive}
use Rattle.labels.proofs.LabelLaws.{Agree, active_agree}
use Rattle.lines.specs.Lines.{line_count}
use Rattle.lines.proofs.LineLaws.{cells_lines}
use Rattle.pass_number.specs.Scan.{Scan, scanned, scan_at, scan_cells}
use Rattle.pass_number.specs.Spanning.{Spanning}

-- ---- one cell

-- The three ways of a cell p with row r, whose parent is q.
module _ (e : Triple) (m links : List ℕ) (p total : ℕ) (r : List ℕ) (is_row : r ≡ row e m p) where
  pub at_inactive : get_or r 0 0 ≡ 0 → scanned (set m p 0) links total ≡ scan_at e p (scanned m links total)
  unfolding scan_at active occupied
  at_inactive z = rw (← is_row, eq-eqb (get_or r 0 0) 0 z)

  module _ (entry : get_or r 0 0 ≢ 0) (q : ℕ) (is-parent : q ≡ parent links p) where
    pub at_root : q ≡ p → scanned (set m p (total + 1)) links (total + 1) ≡ scan_at e p (scanned m links total)
    unfolding scan_at active occupied
    at_root s = rw (← is_row, ne_eqb (get_or r 0 0) 0 entry, ← is-parent, eq-eqb q p s)

    pub at_child : q ≢ p → scanned (set m p (get_or m q 0)) (set links p 0) total ≡ scan_at e p (scanned m links total)
    unfolding scan_at active occupied
    at_child s = rw (← is_row, ne_eqb (get_or r 0 0) 0 entry, ← is-parent, ne_eqb q p s)

-- A cell numbers one component at most.
at_total : (e : Triple) (p : ℕ) (s : Scan) → (scan_at e p s).total ≤ s.total + 1
unfolding scan_at
at_total e p s =
    by_test (active e s.numbers p) (λ a. by_test (eqb (parent s.links p) p) (λ k. rw (a, k) (omega arith)) (λ k. rw (a, k) (omega arith)))
    (λ a. rw a (omega arith))

-- ---- one line

-- The cells qs, from position p on, are ahead: they make of s what the cells ps make of s₀.
pub record Ahead (e : Triple) (ps : List ℕ) (s₀ : Scan) (p : ℕ) (qs : List ℕ) (s : Scan) : Type 0 where
  pub low : s.total ≤ p
  pub rest : scan_cells e qs s ≡ scan_cells e ps s₀

module _ {e : Triple} {ps : List ℕ} {s₀ : Scan} {p : ℕ} {s : Scan} where
  -- The next one is scanned, and the others are ahead, or none is.
  pub ahead_next : {q : ℕ} {qs : List ℕ} {t : Scan} → p < q → Ahead e ps s₀ p (p ∷ qs) s → t ≡ scan_at e p s → Ahead e ps s₀ q qs t
  unfolding scan_cells
  ahead_next h A i = record { low = rw i (omega (arith, A.low, at_total e p s)); rest = rw i A.rest }

  pub ahead_none : Ahead e ps s₀ p [] s → s ≡ scan_cells e ps s₀
  unfolding scan_cells
  ahead_none A = A.rest

-- ---- all cells

same_scan : {m n ls ks : List ℕ} {t u : ℕ} → m ≡ n → ls ≡ ks → t ≡ u → scanned m ls t ≡ scanned n ks u
same_scan a b c = rw (a, b, c)

module _ (e : Triple) (j : ℕ) (m links : List ℕ) where
  abbrev f : ℕ → ℕ
  f = rep (edges e m j)

  abbrev act : ℕ → Bool
  act = active_of e m j

  leaders : Leaders f act
  leaders = rep_leaders e m j

  -- The map, the links and the total where the first p cells are numbered.
  abbrev front : ℕ → List ℕ
  front p = tabulate p (numbered_at e j m) ++ drop p m

  abbrev cleared_to : ℕ → List ℕ
  cleared_to p = tabulate p (λ _. 0) ++ drop p links

  abbrev total_at : ℕ → ℕ
  total_at p = count_below (leader f act) p

  abbrev pub numbered_to : ℕ → Scan
  numbered_to p = scanned (front p) (cleared_to p) (total_at p)

  pub numbers_none : scanned m links 0 ≡ numbered_to 0
  unfolding tabulate consecutive count_below
  numbers_none = refl

  module _ (whole : length m ≡ cells e) (S : Spanning e m j links) where
    pub numbers_all : {n ls : List ℕ} {t p : ℕ} → scanned n ls t ≡ numbered_to p → p ≡ cells e
        → (n ≡ numbered e j m) × (t ≡ total_at (cells e)) × (ls ≡ zeros (cells e))
    unfolding numbered
    numbers_all s i =
        let k = rw i at s in (
          ap (λ (r : Scan). r.numbers) k ∙ front_all m (numbered_at e j m) (cells e) whole,
          ap (λ (r : Scan). r.total) k,
          ap (λ (r : Scan). r.links) k ∙ front_all links (λ _. 0) (cells e) S.size ∙ tabulate_zeros (cells e),
        )

    module _ (p : ℕ) (h : p < cells e) where
      within : p < length m
      within = omega arith

      linked : p < length links
      linked = omega (arith, S.size)

      -- The least cell of a component has no link, nor has an inactive cell or one of another order: nothing is to be cleared there.
      cleared_least : f p ≡ p → cleared_to p ≡ cleared_to (suc p)
      cleared_least z =
          let none : get_or links p 0 ≡ 0 = root_linkless links p (S.roots p ∙ z) (S.sound p) in
          rw (drop-cons links p 0 linked, tabulate_snoc p (λ _. 0), append_assoc, none)

      cleared_off : act p ≡ false → cleared_to p ≡ cleared_to (suc p)
      cleared_off a = cleared_least (rep_inactive e m j p a)

      -- A cell of another order stays as it is.
      other : eqb (order e p) j ≡ false → numbered_to p ≡ numbered_to (suc p)
      unfolding numbered_at active_of leader
      other u =
          same_scan (rw (drop-cons m p 0 within, tabulate_snoc p (numbered_at e j m), append_assoc, u)) (cleared_off (rw u)) (sym (count_miss (leader f act) p (rw u)))

      -- Rows are read from the order above, which is as it was.
      front_agree : Agree e (suc j) (front p) m
      unfolding numbered_at
      front_agree q k o =
          by_test (ltb q p)
          (λ t. front_done p m (numbered_at e j m) q (ltb-true q p t) ∙ rw (ne_eqb (order e q) j (λ s. omega arith)))
          (λ t. front_rest p m (numbered_at e j m) q (ltb-false q p t))

      -- The link of p is as it was.
      parent_kept : parent (cleared_to p) p ≡ parent links p
      unfolding parent
      parent_kept = rw (front_rest p links (λ _. 0) p (omega arith))

      -- A cell of order j gets its number, where the links join the cells of each component.
      module _ (u : eqb (order e p) j ≡ true) where
        same : active e (front p) p ≡ active e m p
        same = active_agree e (suc j) (front p) m front_agree p h (omega (arith, eqb-true (order e p) j u))

        stored : {v t : ℕ} {ls : List ℕ} → v ≡ label f act p → ls ≡ cleared_to (suc p) → t ≡ total_at (suc p) → scanned (set (front p) p v) ls t ≡ numbered_to (suc p)
        unfolding numbered_at number
        stored {v} i l k =
            let w : v ≡ numbered_at e j m p = rw u i in
            same_scan (rw w (front_more p m (numbered_at e j m) within ∙ rw add-one)) l k

        inactive : active e m p ≡ false → scan_at e p (numbered_to p) ≡ numbered_to (suc p)
        unfolding scan_at active_of leader
        inactive a =
            rw (same, a) (stored (sym (label_off f act leaders p (rw (u, a)))) (cleared_off (rw (u, a))) (sym (count_miss (leader f act) p (rw (u, a)))))

        first : active e m p ≡ true → eqb (parent links p) p ≡ true → scan_at e p (numbered_to p) ≡ numbered_to (suc p)
        unfolding scan_at active_of leader
        first a k =
            let z : f p ≡ p = sym (S.roots p) ∙ root_own links p (eqb-true (parent links p) p k) in
            rw (same, a, parent_kept, k, add-one)
            (stored (sym (label_leader f act leaders p z (rw (u, a)))) (cleared_least z) (sym (count_hit (leader f act) p (rw (u, a) (eq-eqb (f p) p z)))))

        later : active e m p ≡ true → eqb (parent links p) p ≡ false → scan_at e p (numbered_to p) ≡ numbered_to (suc p)
        unfolding scan_at numbered_at number active_of leader
        later a k =
            let q = parent links p in
            let d : q ≢ p = eqb-false q p k in
            let s : f q ≡ f p = sym (S.roots q) ∙ root_up links p refl ∙ S.roots p in
            let b : act p ≡ true = rw (u, a) in
            let c : act q ≡ true = sym (rep_active e m j q) ∙ ap act s ∙ rep_active e m j p ∙ b in
            let n : get_or (front p) q 0 ≡ label f act p =
            front_done p m (numbered_at e j m) q (omega (arith, parent_low links p))
            ∙ rw (and_first (eqb (order e q) j) (active e m q) c) (label_same f act leaders q p c b s) in
            let l : set (cleared_to p) p 0 ≡ cleared_to (suc p) = front_more p links (λ _. 0) linked ∙ rw add-one in
            rw (same, a, parent_kept, k) (stored n l (sym (count_miss (leader f act) p (rw (u, a) (ne_eqb (f p) p (λ z. d (own_root links p (S.roots p ∙ z))))))))

        own : scan_at e p (numbered_to p) ≡ numbered_to (suc p)
        own = by_test (active e m p) (λ a. by_test (eqb (parent links p) p) (first a) (later a)) inactive

    -- The next n cells.
    numbers_next : (p n : ℕ) → p + n ≤ cells e → scan_cells e (keep (λ q. eqb (order e q) j) (consecutive p n)) (numbered_to p) ≡ numbered_to (p + n)
    unfolding scan_cells consecutive
    numbers_next p zero h = ap numbered_to (sym (add-zero p))
    numbers_next p (suc n) h =
        let k : p < cells e = omega arith in
        let s : suc p + n ≡ p + suc n = omega arith in
        let from : Scan → Scan = scan_cells e (keep (λ q. eqb (order e q) j) (consecutive (suc p) n)) in
        let rest : from (numbered_to (suc p)) ≡ numbered_to (p + suc n) = numbers_next (suc p) n (omega arith) ∙ ap numbered_to s in
        by_test (eqb (order e p) j) (λ u. rw u (ap from (own p k u) ∙ rest)) (λ u. rw u (ap from (other p k u) ∙ rest))

    -- The next line.
    pub numbers_line : (l : ℕ) → l < line_count e
        → scan_cells e (keep (λ q. eqb (order e q) j) (consecutive (l * (sides e).x) (sides e).x)) (numbered_to (l * (sides e).x)) ≡ numbered_to ((l + 1) * (sides e).x)
    numbers_line l h =
        let w = (sides e).x in
        let s : l * w + w ≡ (l + 1) * w = omega arith in
        let k : (l + 1) * w ≤ line_count e * w = mul-le-mul_right w (omega arith) in
        numbers_next (l * w) w (omega (arith, cells_lines e)) ∙ ap numbered_to s
