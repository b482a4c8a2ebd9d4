-- What the passes leave, one after the other, is the numbering that the joiner defines.
-- Assumes nothing.
use mathlib.Core.Path.{◌≡◌, refl, sym, ap, ap₂, fun_ext, ◌∙◌}
use mathlib.Core.List.{List, [], ◌++◌}
use Prim.Native.Nat.{ℕ, suc, ◌+◌, ◌-◌, ◌*◌, ◌^◌, ◌≤◌, ◌<◌}
use native.Mathlib.Omega.{arith}
use lib.Dec.{eqb}
use lib.ListN.{get_or, length, take, drop, length-append, length-drop}
use lib.Seq.{get_or-append-add, get_or-drop, length-take-le}
use Rattle.lists.specs.Lists.{consecutive, overlay}
use Rattle.lists.proofs.Lists.{consecutive_out, get_or-in, keep_out}
use Rattle.lists.proofs.Overlay.{overlay_same, written_long, written_read, written_behind, written_again}
use Rattle.lists.proofs.Tests.{keep_same}
use Rattle.union_find.specs.Links.{root}
use Rattle.union_find.proofs.LinkLaws.{root_low, root_idem}
use Rattle.sorting.specs.Sorting.{key_at, stable, Listed, StandsByRank}
use Rattle.joiner.specs.Job.{Kind, Face, Tables}
use Rattle.joiner.specs.Outcomes.{class_of, heads, rank, head_of}
use Rattle.ranking.specs.Ranking.{Different, Leaders, Found, Ordered, Placed, Ranked, LeadersListed, first_of, leaders_of, part, leaders_below, is_leader}
use Rattle.ranking.proofs.Places.{length_part, part_at, part_written, part_lent, part_back}
use Rattle.ranking.proofs.HeadLaws.{head_read, heads_found, rank_read, sorted_apart, sorted_below}
use Rattle.ranking.proofs.FirstLaws.{first_ext}
use Rattle.ranking.proofs.LeaderLists.{leaders_long, leaders_most}

-- ---- `gather`

module _ (links keys xs cs ss fs gs : List ℕ) (n r : ℕ) (lx : n ≤ length xs) (ls : 2 * n ≤ length ss) (C : cs ≡ overlay xs 0 (root links) n)
    (F : Leaders keys cs n fs) (lf : length fs ≡ length ss) (S : LeadersListed cs n n r fs gs) where
  read : (x : ℕ) → x < n → get_or cs x 0 ≡ root links x
  read = written_read xs (root links) n cs C lx

  leaders_first : leaders_below cs fs n ≡ leaders_of keys (root links) n
  unfolding leaders_below is_leader leaders_of
  leaders_first =
      keep_same _ _ (consecutive 0 n)
      (λ x m.
      let hx : x < n = omega (arith, consecutive_out 0 n m) in
      let hc : root links x < n = omega (arith, root_low links x) in
      ap (λ (v : ℕ). eqb v x)
      (ap (λ (c : ℕ). get_or fs c 0) (read x hx) ∙ F.at (root links x) hc (read (root links x) hc ∙ root_idem links x)
      ∙ first_ext keys (λ y. get_or cs y 0) (root links) (root links x) n read))

  pub found_of : Found links keys n r xs cs ss gs
  found_of = record {
    classes = C;
    total = S.total ∙ ap length leaders_first;
    few = leaders_most S;
    listed = part_written fs (leaders_below cs fs n) gs n r S.total (omega (arith, leaders_most S)) S.listed ∙ leaders_first;
    long = leaders_long S ∙ lf;
  }

-- ---- `arrange`

sorted_as : {ks ls ps qs ys : List ℕ} {m r : ℕ} → ks ≡ ls → ps ≡ qs → m ≡ r → StandsByRank ps ys (stable (key_at ks ps) m) → StandsByRank qs ys (stable (key_at ls qs) r)
sorted_as a b e S = rw (← a, ← b, ← e) S

module _ (links keys xs cs ss ys ws : List ℕ) (n h : ℕ) (lh : h ≤ n) (lx : n ≤ length xs) (ls : 2 * n ≤ length ss)
    (S : StandsByRank (take (n + h - n) (drop n ss)) ys (stable (key_at keys (take (n + h - n) (drop n ss))) (length (take (n + h - n) (drop n ss)))))
    (W : length ws ≡ length (take h xs)) (C : cs ≡ overlay (ws ++ drop h xs) 0 (root links) n) where
  same_behind : (j : ℕ) → n ≤ j → get_or (ws ++ drop h xs) j 0 ≡ get_or xs j 0
  same_behind j l =
      let w : length ws ≡ h = W ∙ length-take-le h xs (omega arith) in
      let q : length ws + (j - h) ≡ j = omega arith in
      let p : h + (j - h) ≡ j = omega arith in
      ap (λ (k : ℕ). get_or (ws ++ drop h xs) k 0) (sym q) ∙ get_or-append-add ws (drop h xs) (j - h) 0 ∙ get_or-drop h xs (j - h) 0 ∙ ap (λ (k : ℕ). get_or xs k 0) p

  sorted : StandsByRank (part ss n h) ys (stable (key_at keys (part ss n h)) h)
  sorted = sorted_as refl (part_lent ss n h) (ap length (part_lent ss n h) ∙ length_part ss n h (omega arith)) S

  sorted_long : length ys ≡ h
  sorted_long = sorted.size ∙ length_part ss n h (omega arith)

  pub ordered_of : Ordered links keys n h xs cs ss (take n ss ++ (ys ++ drop (n + h - n) (drop n ss)))
  ordered_of = record {
    classes = C ∙ written_again xs (ws ++ drop h xs) (root links) n lx
        (omega (arith, length-append ws (drop h xs), length-drop h xs, W, length-take-le h xs (omega arith))) same_behind;
    sorted = rw (part_back ss ys n h (n + h - n) (omega arith) sorted_long) sorted;
    long = omega (
      arith,
      length-append (take n ss) (ys ++ drop (n + h - n) (drop n ss)),
      length-append ys (drop (n + h - n) (drop n ss)),
      length-take-le n ss (omega arith),
      length-drop (n + h - n) (drop n ss),
      length-drop n ss,
      sorted_long,
    );
  }

-- ---- `rank_kind`

-- Tables with these links and keys.
unfoldable pub table_of : List ℕ → List ℕ → Tables
table_of links keys = record {
  ticks = [];
  blocks = [];
  links = λ κ. links;
  keys = λ κ. keys;
  rows = λ κ. [];
  numbers = λ κ. [];
  firsts = λ κ. [];
  listed = λ κ. [];
}

table_class : (links keys : List ℕ) (x : ℕ) → class_of (table_of links keys) Face x ≡ root links x
unfolding class_of table_of
table_class links keys x = refl

leaders_below_lem : (keys : List ℕ) (f : ℕ → ℕ) (n j : ℕ) → j < length (leaders_of keys f n) → get_or (leaders_of keys f n) j 0 < n
unfolding leaders_of
leaders_below_lem keys f n j l =
    omega (arith, consecutive_out 0 n (keep_out (λ x. eqb (first_of keys f (f x) n) x) (consecutive 0 n) (get_or-in (leaders_of keys f n) j l)).0)

module _ {links keys xs cs ss₀ ss₁ : List ℕ} {n r : ℕ} (lx : n ≤ length xs) (lk : n ≤ length keys) (ls : 2 * n ≤ length ss₀)
    (G : Found links keys n r xs cs ss₀ ss₁) where
  pub found_listed : n < 2 ^ 32 → Listed (part ss₁ n r) keys
  found_listed b = rw G.listed (record {
    few = omega (arith, G.total, G.few);
    keyed = λ j l. omega (arith, leaders_below_lem keys (root links) n j l);
  })

  module _ {ds ss₂ : List ℕ} (O : Ordered links keys n r cs ds ss₁ ss₂) where
    read_unchanged : (x : ℕ) → x < n → get_or ds x 0 ≡ root links x
    read_unchanged = written_read cs (root links) n ds O.classes (omega (arith, written_long xs (root links) n cs G.classes))

    -- of any kind of tables with these keys and classes
    module _ (t : Tables) (κ : Kind) (K : t.keys κ ≡ keys) (M : (x : ℕ) → class_of t κ x ≡ root links x) where
      heads_are : heads t κ n ≡ leaders_of keys (root links) n
      heads_are = heads_found t κ n ∙ ap₂ (λ (k : List ℕ) (f : ℕ → ℕ). leaders_of k f n) K (fun_ext M)

      count_is : r ≡ length (heads t κ n)
      count_is = G.total ∙ ap length (sym heads_are)

      sorted_heads : StandsByRank (heads t κ n) (part ss₂ n r) (stable (key_at (t.keys κ) (heads t κ n)) (length (heads t κ n)))
      sorted_heads = sorted_as (sym K) (G.listed ∙ sym heads_are) count_is O.sorted

      place_is : (i : ℕ) → i < r → get_or (part ss₂ n r) i 0 ≡ get_or ss₂ (n + i) 0
      place_is i l = part_at ss₂ n r i l

      place_below : (i : ℕ) → i < r → get_or ss₂ (n + i) 0 < n
      place_below i l = omega (arith, place_is i l, sorted_below t κ n (part ss₂ n r) sorted_heads i (omega (arith, count_is)))

      class_is : (i : ℕ) → i < r → get_or ds (get_or ss₂ (n + i) 0) 0 ≡ class_of t κ (get_or (part ss₂ n r) i 0)
      class_is i l = read_unchanged (get_or ss₂ (n + i) 0) (place_below i l) ∙ sym (M (get_or ss₂ (n + i) 0)) ∙ ap (class_of t κ) (sym (place_is i l))

      different : Different ds ss₂ n r
      different = record {
        within = place_below;
        apart = λ i j hi hj e. sorted_apart t κ n (part ss₂ n r) sorted_heads i j (omega (arith, count_is)) (omega (arith, count_is))
            (sym (class_is i hi) ∙ e ∙ class_is j hj);
      }

      pub ranked_of : {ss₃ ns fs fs' : List ℕ} → Placed ds ss₂ ss₃ n r → fs' ≡ overlay fs 0 (λ i. get_or ss₂ (n + i) 0) r
          → ns ≡ overlay ds 0 (λ x. get_or ss₃ (get_or ds x 0) 0) n → Ranked t κ n r xs ns fs fs'
      ranked_of {ss₃} {ns} {fs} {fs'} P F N = record {
        total = count_is;
        ranks = N ∙ overlay_same ds 0 (λ x. get_or ss₃ (get_or ds x 0) 0) (rank t κ n) n number ∙ over;
        places = F ∙ overlay_same fs 0 (λ i. get_or ss₂ (n + i) 0) (λ i. head_of t κ n (suc i)) r
            (λ i l. sym (place_is i l) ∙ sym (head_read t κ n (part ss₂ n r) sorted_heads i (omega (arith, count_is))));
      }
        where
          number : (x : ℕ) → x < n → get_or ss₃ (get_or ds x 0) 0 ≡ rank t κ n x
          number x l =
              ap (λ (c : ℕ). get_or ss₃ c 0) (read_unchanged x l ∙ sym (M x))
              ∙ rank_read t κ n (part ss₂ n r) sorted_heads ss₃
              (λ i m. let o : i < r = omega (arith, count_is) in ap (λ (c : ℕ). get_or ss₃ c 0) (sym (class_is i o)) ∙ P.at i o) x l

          over : overlay ds 0 (rank t κ n) n ≡ overlay xs 0 (rank t κ n) n
          over =
              written_again xs ds (rank t κ n) n lx (written_long cs (root links) n ds O.classes ∙ written_long xs (root links) n cs G.classes)
              (λ j l. written_behind cs (root links) n ds O.classes j l ∙ written_behind xs (root links) n cs G.classes j l)

    pub different_of : Different ds ss₂ n r
    unfolding table_of
    different_of = different (table_of links keys) Face refl (table_class links keys)
