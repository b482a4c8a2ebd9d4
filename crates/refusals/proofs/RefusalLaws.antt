-- The refusal given is the first of the table whose case stands, which is the lowest of 1 to 12, and none is given exactly where no case stands.
-- Assumes nothing.
use mathlib.Core.Path.{◌≡◌, refl, sym, ap, ◌∙◌}
use mathlib.Core.Logic.{◌⊎◌, inl, inr, ◌↔◌}
use mathlib.Core.Bool.{Bool, true, false, cond, true≢false}
use mathlib.Core.List.Memᴰ
use mathlib.Core.List.Memᴰ.{head as here}
use mathlib.Core.List.Memᴰ.{tail as later}
use mathlib.Core.List.{List, [], ◌∷◌, ◌++◌, map, Memᴰ}
use Prim.Native.Nat.{ℕ, suc, ◌<◌, ◌≤◌}
use native.Mathlib.Omega.{arith}
use Rattle.lists.specs.Lists.{consecutive, all_of}
use Rattle.lists.proofs.Tests.{all_out}
use Rattle.lists.proofs.Cases.{by_test}
use lib.Dec.{eqb, ltb}
use borrow.Author.Tests.{eqb-true, ltb-true, ltb-false, ne_eqb}
use Rattle.lists.proofs.Lists.{Ascends, ascends_le, ascends_consecutive}
use Rattle.refusals.specs.declared.Refusal.{Refusal}
use Rattle.std.specs.Prelude.{Result, Ok, Err, IsErr, IsErrAnd}
use Rattle.refusals.specs.Refusals.{number_of, Case, stands_in, given_refusal, listed_numbers, number, table, first, given_by}

-- The numbers are 1 to 12, in the order of the table.
pub table_numbers : map number table ≡ consecutive 1 12
unfolding number table consecutive
table_numbers = refl

-- Each refusal has its row.
pub table_whole : (r : Refusal) → Memᴰ r table
unfolding table
table_whole Refusal.OffSize = here refl
table_whole Refusal.BadCut = later (here refl)
table_whole Refusal.WrongStage = later (later (here refl))
table_whole Refusal.NoSuchPlace = later (later (later (here refl)))
table_whole Refusal.DoneAlready = later (later (later (later (here refl))))
table_whole Refusal.WrongTray = later (later (later (later (later (here refl)))))
table_whole Refusal.BlankVoxel = later (later (later (later (later (later (here refl))))))
table_whole Refusal.StrayLabel = later (later (later (later (later (later (later (here refl)))))))
table_whole Refusal.LayersDiffer = later (later (later (later (later (later (later (later (here refl))))))))
table_whole Refusal.TableFull = later (later (later (later (later (later (later (later (later (here refl)))))))))
table_whole Refusal.BadRecord = later (later (later (later (later (later (later (later (later (later (here refl))))))))))
table_whole Refusal.BadReading = later (later (later (later (later (later (later (later (later (later (later (here refl)))))))))))

-- What is given is the number of a refusal whose case stands.
pub record GivenFirst (stands : Refusal → Bool) (rs : List Refusal) (n : ℕ) : Type 0 where
  pub refusal : Refusal
  pub listed : Memᴰ refusal rs
  pub case : stands refusal ≡ true
  pub is : n ≡ number refusal

-- No refusal is 0.
all_number_positive : all_of (λ r. ltb 0 (number r)) table ≡ true
unfolding number table
all_number_positive = refl

pub number_positive : (r : Refusal) → 0 < number r
number_positive r = ltb-true 0 (number r) (all_out (λ q. ltb 0 (number q)) table all_number_positive (table_whole r))

-- .. so that none is told as an accepted call.
pub number_nonzero : (r : Refusal) → eqb (number r) 0 ≡ false
number_nonzero r = ne_eqb (number r) 0 (λ e. absurd (omega (arith, number_positive r, e)))

ascending : Ascends 1 (map number table)
ascending = rw table_numbers (ascends_consecutive 1 12)

module _ (stands : Refusal → Bool) where
  first_given : (rs : List Refusal) → 0 < first stands rs → GivenFirst stands rs (first stands rs)
  unfolding first
  first_given [] h = absurd (omega arith)
  first_given (r ∷ rs) h =
      by_test (stands r)
      (λ t. rw t (record { refusal = r; listed = here refl; case = t; is = refl }))
      (λ t. rw t (let g = first_given rs (rw t at h) in record { refusal = g.refusal; listed = later g.listed; case = g.case; is = g.is }))

  -- a case that stands is not below what is given
  first_lowest : (b : ℕ) (rs : List Refusal) → Ascends (suc b) (map number rs) → {q : Refusal} → Memᴰ q rs → stands q ≡ true → (0 < first stands rs) × (first stands rs ≤ number q)
  unfolding first
  first_lowest b [] a m t = absurd (Memᴰ.not-nil m)
  first_lowest b (r ∷ rs) a {q} m t = go (Memᴰ.cases_cons m) (λ k. first_lowest (number r) rs a.1 k t)
    where
      go : (q ≡ r) ⊎ Memᴰ q rs → (Memᴰ q rs → (0 < first stands rs) × (first stands rs ≤ number q)) → (0 < first stands (r ∷ rs)) × (first stands (r ∷ rs) ≤ number q)
      go (inl e) ih = rw (ap stands (sym e) ∙ t) (omega (arith, a.0), omega (arith, ap number e))
      go (inr k) ih =
          by_test (stands r)
          (λ u. rw u (omega (arith, a.0), omega (arith, ascends_le (suc (number r)) (map number rs) a.1 (Memᴰ.map number k))))
          (λ u. rw u (ih k))

  -- What is given has its case, and no lower refusal has.
  pub given_case : 0 < given_by stands → GivenFirst stands table (given_by stands)
  unfolding given_by
  given_case h = first_given table h

  pub given_least : (r : Refusal) → stands r ≡ true → (0 < given_by stands) × (given_by stands ≤ number r)
  unfolding given_by
  given_least r t = first_lowest 0 table ascending (table_whole r) t

  -- What is given is a case that stands, or one of a row before it.
  first_before : (before after : List Refusal) {r : Refusal} → stands r ≡ true → GivenFirst stands (before ++ r ∷ []) (first stands (before ++ r ∷ after))
  unfolding first
  first_before [] after {r} t = rw t (record { refusal = r; listed = here refl; case = t; is = refl })
  first_before (q ∷ before) after {r} t =
      by_test (stands q)
      (λ u. rw u (record { refusal = q; listed = here refl; case = u; is = refl }))
      (λ u. rw u (let g = first_before before after t in record { refusal = g.refusal; listed = later g.listed; case = g.case; is = g.is }))

  pub given_before : (before after : List Refusal) {r : Refusal} → table ≡ before ++ r ∷ after → stands r ≡ true → GivenFirst stands (before ++ r ∷ []) (given_by stands)
  unfolding given_by
  given_before before after {r} e t = rw e (first_before before after t)

  first_none : (rs : List Refusal) → first stands rs ≡ 0 → {q : Refusal} → Memᴰ q rs → stands q ≡ false
  unfolding first
  first_none [] z m = absurd (Memᴰ.not-nil m)
  first_none (r ∷ rs) z {q} m =
      by_test (stands r)
      (λ t. absurd (omega (arith, rw t at z, number_positive r)))
      (λ t. go t (Memᴰ.cases_cons m) (λ k. first_none rs (rw t at z) k))
    where
      go : stands r ≡ false → (q ≡ r) ⊎ Memᴰ q rs → (Memᴰ q rs → stands q ≡ false) → stands q ≡ false
      go t (inl e) ih = ap stands e ∙ t
      go t (inr k) ih = ih k

  -- None is given exactly where no case stands.
  pub given_none : (given_by stands ≡ 0) ↔ ((r : Refusal) → stands r ≡ false)
  unfolding given_by
  given_none = (
    λ z r. first_none table z (table_whole r),
    λ n. by_test (ltb 0 (given_by stands))
        (λ t. let g = given_case (ltb-true 0 (given_by stands) t) in absurd (true≢false (sym g.case ∙ n g.refusal)))
        (λ f. omega (arith, ltb-false 0 (given_by stands) f)),
  )

-- What is given is one of the numbers that are listed.
stands_listed : (cs : List Case) (r : Refusal) → stands_in cs r ≡ true → Memᴰ (number r) (listed_numbers cs)
unfolding stands_in listed_numbers
stands_listed [] r t = absurd (true≢false (sym t))
stands_listed (c ∷ cs) r t =
    by_test (eqb (number c.refusal) (number r))
    (λ u. here (sym (eqb-true (number c.refusal) (number r) u)))
    (λ u. later (stands_listed cs r (rw u at t)))

pub given_listed : (cs : List Case) → 0 < given_refusal cs → Memᴰ (given_refusal cs) (listed_numbers cs)
given_listed cs h =
    let g = given_case (stands_in cs) h in
    rw g.is (stands_listed cs g.refusal g.case)

-- An outcome that is told by whether n is 0, as accepted or as refused with n, has the refusal n.
pub outcome_refusal : {A : Type 0} (refusal : A → ℕ) (n : ℕ) {accepted refused outcome : A} → refusal accepted ≡ 0 → refusal refused ≡ n → outcome ≡ cond (eqb n 0) accepted refused
    → refusal outcome ≡ n
outcome_refusal refusal n a r p = ap refusal p ∙ by_test (eqb n 0) (λ t. rw t (a ∙ sym (eqb-true n 0 t))) (λ t. rw t r)

-- ---- answers

-- What `?` hands on has the refusal's number.
pub err_number : {A : Type 0} (x : Result A Refusal) (r : Refusal) → IsErr x × IsErrAnd x (λ e. e ≡ r) → number_of x ≡ number r
err_number (Ok y) r h = absurd (true≢false (sym h.0))
err_number (Err e) r h = ap number h.1
