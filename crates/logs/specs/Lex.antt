-- Comparing by one number and then by what comes after it keeps the laws of an order.
use Rattle.std.specs.Prelude.{◌≡◌, ℕ, Bool, true, false, cond, nat_lt, refl}
use Rattle.std.proofs.Common.{sym, ap, ◌∙◌, arith}
use Rattle.std.proofs.lemmas.Bool.Decides.{nat_tests}
use Rattle.logs.specs.declared.species.Species.{Species}
use Rattle.logs.specs.declared.species.Species.TheVariants.{Spruce, Pine, Larch, Douglas}
use Rattle.logs.specs.declared.keys.Size.{Size}
use Rattle.logs.specs.Codes.{code}
use Rattle.logs.specs.Orders.{lex, tag_before, size_before}
use Rattle.ordered.specs.Meaning.{Order}

lex_transitive : (x y z : ℕ) (s t u : Bool) → (s ≡ true → t ≡ true → u ≡ true) → lex x y s ≡ true → lex y z t ≡ true → lex x z u ≡ true
lex_transitive x y z s t u h p q = grind (arith, nat_tests)

lex_total : (x y : ℕ) (s t : Bool) → lex x y s ≡ false → lex y x t ≡ false → (x ≡ y) × (s ≡ false) × (t ≡ false)
lex_total x y s t p q = (grind (arith, nat_tests), grind (arith, nat_tests), grind (arith, nat_tests))

ltb_transitive : (x y z : ℕ) → nat_lt x y ≡ true → nat_lt y z ≡ true → nat_lt x z ≡ true
ltb_transitive x y z p q = grind (arith, nat_tests)

ltb_total : (x y : ℕ) → nat_lt x y ≡ false → nat_lt y x ≡ false → x ≡ y
ltb_total x y p q = grind (arith, nat_tests)

decode : ℕ → Species
decode n = cond (nat_lt n 1) Spruce (cond (nat_lt n 2) Pine (cond (nat_lt n 3) Larch Douglas))

decode_code : (s : Species) → decode (code s) ≡ s
unfolding decode
decode_code Spruce = refl
decode_code Pine = refl
decode_code Larch = refl
decode_code Douglas = refl

pub code_injective : (s t : Species) → code s ≡ code t → s ≡ t
code_injective s t e = sym (decode_code s) ∙ ap decode e ∙ decode_code t

pub size_transitive : (a b c : Size) → size_before a b ≡ true → size_before b c ≡ true → size_before a c ≡ true
size_transitive a b c =
    lex_transitive (code a.species) (code b.species) (code c.species) _ _ _
    (lex_transitive a.diameter b.diameter c.diameter _ _ _
    (lex_transitive a.length b.length c.length _ _ _ (ltb_transitive a.tag b.tag c.tag)))

pub size_total : (a b : Size) → size_before a b ≡ false → size_before b a ≡ false → a ≡ b
size_total a b p q =
    let u = lex_total (code a.species) (code b.species) _ _ p q in
    let v = lex_total a.diameter b.diameter _ _ u.1 u.2 in
    let w = lex_total a.length b.length _ _ v.1 v.2 in
    let s = code_injective a.species b.species u.0 in
    let d = v.0 in
    let l = w.0 in
    let t = ltb_total a.tag b.tag w.1 w.2 in
    λ i. record { species = s i; diameter = d i; length = l i; tag = t i }

pub tag_order : Order tag_before
tag_order = record {
  irreflexive = λ x. grind (arith, nat_tests);
  transitive = λ x y z p q. grind (arith, nat_tests);
  total = λ x y p q. let e : x.0 ≡ y.0 = grind (arith, nat_tests) in λ i. record { 0 = e i };
}

lex_self : (n : ℕ) (t : Bool) → lex n n t ≡ t
lex_self n t = grind (arith, nat_tests)

pub size_order : Order size_before
size_order = record {
  irreflexive = λ x. lex_self (code x.species) _ ∙ lex_self x.diameter _ ∙ lex_self x.length _ ∙ grind (arith, nat_tests);
  transitive = size_transitive;
  total = size_total;
}
