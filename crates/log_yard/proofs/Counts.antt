-- The number of present logs is the length of the row of the tag index.
use Rattle.std.proofs.Common.{◌≡◌, ℕ, zero, suc, ◌<◌, ◌≤◌, Bool, true, false, cond, eqb, ◌⊎◌, List, [], ◌∷◌, length, is_some, Some, None, Option, sym, refl, ap, ◌∙◌, inl, inr, arith}
use Rattle.std.proofs.lemmas.Bool.{cases_eq, eq-eqb, ne_eqb, cond-false, false≢true}
use Rattle.std.proofs.lemmas.Bool.Decides.{nat_tests}
use Rattle.ordered.specs.Meaning.{same, Ascending}
use Rattle.ordered.proofs.Rows.{lookup_after}
use Rattle.logs.specs.declared.keys.Tag.{Tag}
use Rattle.logs.specs.declared.log.Rest.{Rest}
use Rattle.logs.specs.Lex.{tag_order}
use Rattle.logs.specs.Orders.{tag_before}
use Rattle.log_yard.specs.History.{count_below, Loaded, History, log_at, present}
use Rattle.log_yard.specs.Tells.{at}

pub same_tag : (a b : ℕ) → same tag_before (record { 0 = a }) (record { 0 = b }) ≡ eqb b a
same_tag a b = grind (arith, nat_tests)

count_like : (n : ℕ) (f g : ℕ → Bool) → ((k : ℕ) → k < n → f k ≡ g k) → count_below n f ≡ count_below n g
unfolding count_below
count_like zero f g h = refl
count_like (suc n) f g h =
    let e : ◌≡◌ {A = ℕ} (cond (f n) 1 0) (cond (g n) 1 0) = ap (λ b. cond b 1 0) (h n (omega arith)) in
    omega (arith, e, count_like n f g (λ k l. h k (omega arith)))

count_none : (n : ℕ) → count_below n (λ _. false) ≡ 0
unfolding count_below
count_none zero = refl
count_none (suc n) = omega (arith, count_none n)

count_step : (n k : ℕ) (f : ℕ → Bool) → k < suc n → f k ≡ false → (k < n → count_below n (λ t. cond (eqb t k) true (f t)) ≡ suc (count_below n f)) → (n ≡ k) ⊎ (n ≡ k → ⊥) → count_below (suc n) (λ t. cond (eqb t k) true (f t)) ≡ suc (count_below (suc n) f)
unfolding count_below
count_step n k f l e ih (inl eq) =
    let r = count_like n (λ t. cond (eqb t k) true (f t)) f (λ t lt. cond-false (eqb t k) true (f t) (ne_eqb t k (λ q. omega (arith, q)))) in
    let a : ◌≡◌ {A = ℕ} (cond (cond (eqb n k) true (f n)) 1 0) 1 = ap (λ b. cond (cond b true (f n)) 1 0) (eq-eqb n k eq) in
    let z : ◌≡◌ {A = ℕ} (cond (f n) 1 0) 0 = ap (λ b. cond b 1 0) (ap f eq ∙ e) in
    omega (arith, r, a, z)
count_step n k f l e ih (inr ne) =
    let a : ◌≡◌ {A = ℕ} (cond (cond (eqb n k) true (f n)) 1 0) (cond (f n) 1 0) = ap (λ b. cond (cond b true (f n)) 1 0) (ne_eqb n k ne) in
    let lt : k < n = omega (arith, ne) in
    omega (arith, ih lt, a)

count_more : (n k : ℕ) (f : ℕ → Bool) → k < n → f k ≡ false → count_below n (λ t. cond (eqb t k) true (f t)) ≡ suc (count_below n f)
count_more zero k f l e = absurd (omega arith)
count_more (suc n) k f l e = count_step n k f l e (λ lt. count_more n k f lt e) (cases_eq n k)

is_some_cond : {X : Type 0} (t : Bool) (x : X) (o : Option X) → is_some (cond t (Some x) o) ≡ cond t true (is_some o)
is_some_cond true x o = refl
is_some_cond false x o = refl

cond_self : (t : Bool) → cond t true true ≡ true
cond_self true = refl
cond_self false = refl

is_some_at : (p : Tag × Rest) (ps : List (Tag × Rest)) (t : ℕ) → is_some (at (p ∷ ps) t) ≡ cond (eqb t p.0.0) true (is_some (at ps t))
is_some_at p ps t = is_some_cond (same tag_before p.0 (record { 0 = t })) p.1 (at ps t) ∙ ap (λ b. cond b true (is_some (at ps t))) (same_tag p.0.0 t)

eqb_self : (n : ℕ) → eqb n n ≡ true
eqb_self n = eq-eqb n n refl

pub row_count : (n : ℕ) (row : List (Tag × Rest)) → Ascending tag_before row → ((t : ℕ) → is_some (at row t) ≡ true → t < n) → length row ≡ count_below n (λ t. is_some (at row t))
row_count n [] asc low = sym (count_none n)
row_count n (p ∷ ps) asc low =
    let k = p.0.0 in
    let ih = row_count n ps asc.1 (λ t s. low t (is_some_at p ps t ∙ ap (cond (eqb t k) true) s ∙ cond_self (eqb t k))) in
    let none : is_some (at ps k) ≡ false = ap is_some (lookup_after tag_order p.0 ps asc.0) in
    let lt : k < n = low k (is_some_at p ps k ∙ ap (λ b. cond b true (is_some (at ps k))) (eqb_self k)) in
    let more = count_more n k (λ t. is_some (at ps t)) lt none in
    let like = count_like n (λ t. is_some (at (p ∷ ps) t)) (λ t. cond (eqb t k) true (is_some (at ps t))) (λ t _. is_some_at p ps t) in
    omega (arith, ih, more, like)

pub present_like : (ls : Loaded) (h : History) (row : List (Tag × Rest)) → Ascending tag_before row → ((t : ℕ) (r : Rest) → at row t ≡ Some r → t ≤ 4294967295) → ((t : ℕ) → at row t ≡ log_at ls h t) → length row ≡ present ls h
present_like ls h row asc low logs =
    row_count 4294967296 row asc (λ t s. let o = some_of (at row t) s in omega (arith, low t o.0 o.1))
    ∙ count_like 4294967296 (λ t. is_some (at row t)) (λ t. is_some (log_at ls h t)) (λ t _. ap is_some (logs t))
  where
    some_of : (o : Option Rest) → is_some o ≡ true → (r : Rest) × (o ≡ Some r)
    some_of (Some r) s = (r, refl)
    some_of None s = absurd (false≢true s)
