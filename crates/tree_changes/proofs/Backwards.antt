-- Numbers that come from the end of a range down: where a search stops, and what it passes.
use Rattle.std.proofs.Common.{◌≡◌, ℕ, ◌+◌, ◌-◌, ◌<◌, ◌≤◌, Bool, true, false, List, [], ◌∷◌, Some, None, Option, IfSome, MatchOption, sym, ap, ◌∙◌, subst, ⊎_elim, arith}
use Rattle.std.proofs.lemmas.Bool.{cases_eq}
use Rattle.std.specs.Fn.{CalledAt}
use Rattle.std.specs.Iterator.{Yields, YieldsThen, CallableAtEachTurn}
use Rattle.std.specs.List.{FoldsTo}
use Rattle.std.specs.declared.iter.Rev.{Rev}
use Rattle.std.specs.declared.ops.Range.{Range}
use denote.Param.Members.{Mut}
use denote.Ref.{Bor}

-- a call of `next` on a range that is gone through backwards
abbrev pub back : Rev (Range ℕ) → Option ℕ → Rev (Range ℕ) → Type 0
back s r t =
    (t.iter.start ≡ s.iter.start)
    × MatchOption r ((s.iter.end - s.iter.start ≡ 0) × (t.iter.end ≡ s.iter.end)) (λ x. (0 < s.iter.end - s.iter.start) × (x ≡ t.iter.end) × (s.iter.end ≡ t.iter.end + 1))

within : (xs : List ℕ) (s t : Rev (Range ℕ)) → Yields back s xs t → (t.iter.start ≡ s.iter.start) × (t.iter.end ≤ s.iter.end)
within [] s t y = (ap (λ (r : Rev (Range ℕ)). r.iter.start) (sym y), omega (arith, ap (λ (r : Rev (Range ℕ)). r.iter.end) y))
within (x ∷ xs) s t y = let w = within xs y.0 t y.2 in (w.0 ∙ y.1.0, omega (arith, w.1, y.1.1))

module _ {P : Type 0} (R : P → ℕ → P → Type 0) (p : P) (same : (x : ℕ) (q : P) → R p x q → q ≡ p) where
  kept : (xs : List ℕ) (q : P) → FoldsTo R p xs q → q ≡ p
  kept [] q c = sym c
  kept (x ∷ xs) q c = kept xs q (subst (λ k. FoldsTo R k xs q) (same x c.0 c.1) c.2)

-- it may be asked of each number of the range
pub serves_back : {P : Type 0} {R : P → ℕ → P → Type 0} {Q : P → ℕ → Type 0} {s : Rev (Range ℕ)} {p : P} → ((x : ℕ) (q : P) → R p x q → q ≡ p) → ((x : ℕ) → x < s.iter.end → Q p x) → CallableAtEachTurn back R Q s p
serves_back {P} {R} {Q} {s} {p} same ask = record {
  at = λ xs t q x u y c e. let w = within xs s t y in subst (λ k. Q k x) (sym (kept R p same xs q c)) (ask x (omega (arith, w.1, e.1)));
}

module _ {F : Type 0} (g : Mut F (Bor ℕ × Unit {0}) Bool) (f : F) (Yes No : ℕ → Type 0) (yes : (x : ℕ) (q : F) → CalledAt g f x true q → Yes x) (no : (x : ℕ) (q : F) → CalledAt g f x false q → (q ≡ f) × No x) where
  passed : (xs : List ℕ) (s t : Rev (Range ℕ)) (j : F) → Yields back s xs t → FoldsTo (λ p x q. CalledAt g p x false q) f xs j → (j ≡ f) × ((k : ℕ) → t.iter.end ≤ k → k < s.iter.end → No k)
  passed [] s t j y c = (sym c, λ k a b. absurd (omega (arith, a, b, ap (λ (r : Rev (Range ℕ)). r.iter.end) y)))
  passed (x ∷ xs) s t j y c =
      let n = no x c.0 c.1 in
      let w = passed xs y.0 t j y.2 (subst (λ q. FoldsTo (λ p x q. CalledAt g p x false q) q xs j) n.0 c.2) in
      (w.0, λ k a b. ⊎_elim (λ (e : k ≡ x). subst No (sym e) n.1) (λ (e : k ≡ x → ⊥). w.1 k a (omega (arith, b, e, y.1.1))) (cases_eq k x))

  -- of the numbers below n the last that passes, or none does
  pub last_back : (n : ℕ) (s u : Rev (Range ℕ)) (r : Option ℕ) → s.iter ≡ record { start = 0; end = n }
      → (xs : List ℕ) × (j : F) × YieldsThen back s xs r u × FoldsTo (λ p x q. CalledAt g p x false q) f xs j × IfSome r (λ x. (h : F) × CalledAt g j x true h)
      → MatchOption r ((k : ℕ) → k < n → No k) (λ i. (i < n) × Yes i × ((k : ℕ) → i < k → k < n → No k))
  last_back n s u r is (xs, j, y, c, e) =
      let w = within xs s y.0 y.1 in
      let p = passed xs s y.0 j y.1 c in
      let low : s.iter.start ≡ 0 = ap (λ (a : Range ℕ). a.start) is in
      let high : s.iter.end ≡ n = ap (λ (a : Range ℕ). a.end) is in
      by r w p low high y.2 e
    where
      by : {t : Rev (Range ℕ)} (o : Option ℕ) → (t.iter.start ≡ s.iter.start) × (t.iter.end ≤ s.iter.end) → (j ≡ f) × ((k : ℕ) → t.iter.end ≤ k → k < s.iter.end → No k) → s.iter.start ≡ 0 → s.iter.end ≡ n → back t o u → IfSome o (λ x. (h : F) × CalledAt g j x true h)
          → MatchOption o ((k : ℕ) → k < n → No k) (λ i. (i < n) × Yes i × ((k : ℕ) → i < k → k < n → No k))
      by None w p low high b e = λ k a. p.1 k (omega (arith, w.0, low, b.1)) (omega (arith, a, high))
      by (Some x) w p low high b e = (
        omega (arith, w.1, high, b.1),
        yes x e.0 (subst (λ q. CalledAt g q x true e.0) p.0 e.1),
        λ k a l. p.1 k (omega (arith, a, b.1)) (omega (arith, l, high)),
      )
