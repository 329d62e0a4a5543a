-- The walk to the first standing log that fits.
use Rattle.std.proofs.Common.{◌≡◌, ℕ, ◌<◌, ◌≤◌, ◌≢◌, Bool, true, false, not, ◌⊎◌, List, Some, None, sym, ap, ◌∙◌, inl, inr, ⊎_elim, arith}
use Rattle.std.proofs.lemmas.Bool.{not-true, not_from_false, both_ways, le-ltb}
use Rattle.std.proofs.lemmas.Bool.Decides.{nat_tests}
use Rattle.ordered.specs.Meaning.{lookup, Ascending, First, at_or_above}
use Rattle.ordered.proofs.Lookups.{first_some, first_none}
use Rattle.logs.specs.declared.species.Species.{Species}
use Rattle.logs.specs.declared.keys.Size.{Size}
use Rattle.logs.specs.Orders.{size_before, lex}
use Rattle.logs.specs.Codes.{code}
use Rattle.log_yard.specs.Fitting.{KeyFits, FirstFit}
use Rattle.logs.specs.Lex.{code_injective, size_order}

abbrev seek : Species → ℕ → ℕ → Size
seek s d l = record { species = s; diameter = d; length = l; tag = 0 }

-- what `lex` answers, from both sides
pub lex_false : (x y : ℕ) (t : Bool) → y ≤ x → (x ≡ y → t ≡ false) → lex x y t ≡ false
lex_false x y t h e = grind (arith, nat_tests)

pub lex_not : (x y : ℕ) (t : Bool) → lex x y t ≡ false → (y < x) ⊎ ((x ≡ y) × (t ≡ false))
lex_not x y t h = grind (arith, nat_tests)

pub lex_yes : (x y : ℕ) (t : Bool) → lex x y t ≡ true → x ≤ y
lex_yes x y t h = grind (arith, nat_tests)

pub lex_less : (x y : ℕ) (t : Bool) → lex x y t ≡ true → (x < y) ⊎ ((x ≡ y) × (t ≡ true))
lex_less x y t h = grind (arith, nat_tests)

-- a key that fits is not before the place that is sought
pub fits_from : (s : Species) (d₀ d l : ℕ) (k : Size) → KeyFits s d₀ l k → d ≤ k.diameter → size_before k (seek s d l) ≡ false
fits_from s d₀ d l k f h =
    let e : code k.species ≡ code s = ap code f.0 in
    lex_false (code k.species) (code s) _ (omega (arith, e)) (λ _.
    lex_false k.diameter d _ h (λ _.
    lex_false k.length l _ f.2 (λ _. le-ltb k.tag 0 (omega arith))))

-- a key that is not before it, of the same species
pub from_place : (s : Species) (d l : ℕ) (k : Size) → size_before k (seek s d l) ≡ false → k.species ≡ s → (d ≤ k.diameter) × (k.length < l → d < k.diameter)
from_place s d l k h e =
    let c : code k.species ≡ code s = ap code e in
    ⊎_elim (λ lt. absurd (omega (arith, lt, c)))
    (λ p. ⊎_elim
    (λ lt. (omega (arith, lt), λ _. lt))
    (λ q. (omega (arith, q.0), λ short. ⊎_elim (λ lt. omega (arith, lt, short)) (λ r. omega (arith, r.0, short)) (lex_not k.length l _ q.1)))
    (lex_not k.diameter d _ p.1))
    (lex_not (code k.species) (code s) _ h)

other_species : (s : Species) (d l : ℕ) (k : Size) → size_before k (seek s d l) ≡ false → (k.species ≡ s → ⊥) → code s < code k.species
other_species s d l k h ne = ⊎_elim (λ lt. lt) (λ p. absurd (ne (code_injective k.species s p.0))) (lex_not (code k.species) (code s) _ h)

-- not before k says: at most as large a species, and then as a diameter
later_species : (x k : Size) → (k ≡ x) ⊎ (size_before x k ≡ true) → code x.species ≤ code k.species
later_species x k (inl e) = omega (arith, ap (λ (z : Size). code z.species) e)
later_species x k (inr b) = lex_yes (code x.species) (code k.species) _ b

later_diameter : (x k : Size) → x.species ≡ k.species → (k ≡ x) ⊎ (size_before x k ≡ true) → x.diameter ≤ k.diameter
later_diameter x k s (inl e) = omega (arith, ap (λ (z : Size). z.diameter) e)
later_diameter x k s (inr b) = ⊎_elim (λ lt. absurd (omega (arith, lt, ap code s))) (λ p. lex_yes x.diameter k.diameter _ p.1) (lex_less (code x.species) (code k.species) _ b)

module _ (sizes : List (Size × ℕ)) (asc : Ascending size_before sizes) (s : Species) (d₀ d l : ℕ) where
  -- each key that fits is at d or beyond
  abbrev pub Beyond : Type 0
  Beyond = (k : Size) (v : ℕ) → lookup size_before sizes k ≡ Some v → KeyFits s d₀ l k → d ≤ k.diameter

  pub none_left : Beyond → None ≡ at_or_above size_before sizes (seek s d l) → FirstFit sizes s d₀ l None
  none_left beyond e k v is f =
      both_ways _ (first_none size_order _ sizes (sym e) k v is) (not_from_false _ (fits_from s d₀ d l k f (beyond k v is f)))

  module _ (p : Size × ℕ) (e : Some p ≡ at_or_above size_before sizes (seek s d l)) where
    the_first : First size_before sizes (λ q. not (size_before q (seek s d l))) p
    the_first = first_some size_order _ sizes p asc (sym e)

    not_before : size_before p.0 (seek s d l) ≡ false
    not_before = not-true _ the_first.passes

    least : Beyond → (k : Size) (v : ℕ) → lookup size_before sizes k ≡ Some v → KeyFits s d₀ l k → (k ≡ p.0) ⊎ (size_before p.0 k ≡ true)
    least beyond k v is f = the_first.least k v is (not_from_false _ (fits_from s d₀ d l k f (beyond k v is f)))

    pub none_more : Beyond → p.0.species ≢ s → FirstFit sizes s d₀ l None
    none_more beyond ne k v is f =
        omega (arith, other_species s d l p.0 not_before ne, later_species p.0 k (least beyond k v is f), ap code f.0)

    module _ (sp : p.0.species ≡ s) where
      pub first_found : Beyond → d₀ ≤ d → l ≤ p.0.length → FirstFit sizes s d₀ l (Some p.0)
      first_found beyond h long = ((sp, omega (arith, (from_place s d l p.0 not_before sp).0), long), (p.1, the_first.there), least beyond)

      -- a key that is too short is thicker, and so is each that fits
      pub thicker : p.0.length < l → d < p.0.diameter
      thicker short = (from_place s d l p.0 not_before sp).1 short

      pub beyond_next : Beyond → (k : Size) (v : ℕ) → lookup size_before sizes k ≡ Some v → KeyFits s d₀ l k → p.0.diameter ≤ k.diameter
      beyond_next beyond k v is f = later_diameter p.0 k (sp ∙ sym f.0) (least beyond k v is f)
