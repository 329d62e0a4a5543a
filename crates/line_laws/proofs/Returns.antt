-- The line that is written of a log says that log.
use Rattle.std.proofs.Common.{◌≡◌, ℕ, ◌+◌, ◌-◌, ◌^◌, ◌<◌, ◌≤◌, true, false, eqb, leb, List, [], ◌∷◌, ◌++◌, length, get_or, take, drop, Some, Ok, codes, decimal, sym, refl, ap, ◌∙◌, append_assoc, arith}
use Rattle.std.proofs.lemmas.Bool.{cond-true, ne_eqb, le-leb, and_from}
use Rattle.std.proofs.lemmas.List.{append_cancel_right, length-append, length_push, take_at}
use Rattle.std.proofs.lemmas.Fmt.{decimal_digit, decimal_is_IsNumeral, decimal_nonempty, first_decimal, length-decimal-le}
use Rattle.std.proofs.lemmas.List.Elements.{All-from_recursion}
use Rattle.std.proofs.lemmas.List.Splits.{slice_split_at, slice_split_none}
use Rattle.std.proofs.lemmas.Str.Parse.{digit_from_value}
use Rattle.std.proofs.lemmas.Bool.Decides.{nat_tests}
use Rattle.std.specs.List.{AllByRecursion, join_with_byte}
use Rattle.std.specs.Str.Parse.{AllDigits, digits_value_after}
use Rattle.logs.specs.declared.species.Species.{Species}
use Rattle.logs.specs.declared.species.Species.TheVariants as species
use Rattle.logs.specs.declared.log.Place.{Place}
use Rattle.logs.specs.declared.log.Place.TheVariants as place
use Rattle.logs.specs.declared.log.Log.{Log}
use Rattle.logs.specs.declared.limits.Limits.{Limits}
use Rattle.logs.specs.Codes.{letter_of as letter_byte}
use Rattle.logs.specs.Limits.{TagOk, BodyOk, Within, allows, tags, diameters, lengths, bays}
use Rattle.line_reader.specs.declared.request.Request.TheVariants as request
use Rattle.line_reader.specs.declared.request.Reason.TheVariants.{LongLine, Outside}
use Rattle.line_reader.specs.Fields.{fields, read_on, well_begun, number_of, letter_of, place_of, word_of}
use Rattle.line_reader.specs.declared.request.Request.{Request}
use Rattle.line_reader.specs.Reads.{Read, reads, worded, refuse, within}
use Rattle.line_writer.specs.Shows.{Written, place_word, log_line}
use Rattle.line_laws.specs.Back.{LineOf, ReadsBack, Reread}

tag_digits : (n : ℕ) → n < 4294967296 → length (decimal n) ≤ 10
tag_digits n h = length-decimal-le 10 n (omega arith) (omega arith) (omega arith)

size_digits : (n : ℕ) → n < 65536 → length (decimal n) ≤ 5
size_digits n h = length-decimal-le 5 n (omega arith) (omega arith) (omega arith)

byte_digits : (n : ℕ) → n < 256 → length (decimal n) ≤ 3
byte_digits n h = length-decimal-le 3 n (omega arith) (omega arith) (omega arith)

place_four : (p : Place) → length (place_word p) ≤ 4
place_four place.Standing = omega arith
place_four place.AtSaw = omega arith

abbrev letter : Species → List ℕ
letter s = letter_byte s ∷ []

-- no byte of the field is a tab
abbrev Clear : List ℕ → Type 0
Clear f = AllByRecursion (λ b. eqb b 9 ≡ false) f

-- fields in a row, parted by tabs
fields_joined : (f : List ℕ) (fs : List (List ℕ)) → AllByRecursion Clear (f ∷ fs) → fields (join_with_byte 9 (f ∷ fs)) ≡ f ∷ fs
fields_joined f [] h = slice_split_none (λ b. eqb b 9) f (All-from_recursion _ f h.0)
fields_joined f (g ∷ gs) h = slice_split_at (λ b. eqb b 9) f 9 (join_with_byte 9 (g ∷ gs)) (All-from_recursion _ f h.0) refl ∙ ap (λ hs. f ∷ hs) (fields_joined g gs h.1)

clear_digits : (ds : List ℕ) → AllDigits 10 ds → Clear ds
clear_digits [] h = tt
clear_digits (d ∷ ds) h = let r = digit_from_value d h.0 in (ne_eqb d 9 (λ e. omega (arith, r.0)), clear_digits ds h.1)

clear_decimal : (n : ℕ) → n < 2 ^ 64 → Clear (decimal n)
clear_decimal n h = clear_digits (decimal n) (decimal_is_IsNumeral n h).0.1

clear_letter : (s : Species) → Clear (letter s)
clear_letter species.Spruce = (refl, tt)
clear_letter species.Pine = (refl, tt)
clear_letter species.Larch = (refl, tt)
clear_letter species.Douglas = (refl, tt)

clear_place : (p : Place) → Clear (place_word p)
clear_place place.Standing = (refl, (refl, (refl, (refl, tt))))
clear_place place.AtSaw = (refl, (refl, (refl, tt)))

digits_read : (ds : List ℕ) (n : ℕ) → AllDigits 10 ds → read_on n ds ≡ Some (digits_value_after 10 n ds)
digits_read [] n h = refl
digits_read (d ∷ ds) n h = let ih = digits_read ds in let r = digit_from_value d h.0 in grind (arith, nat_tests)

read_decimal : (n : ℕ) → n < 2 ^ 64 → read_on 0 (decimal n) ≡ Some n
read_decimal n h = let d = decimal_is_IsNumeral n h in digits_read (decimal n) 0 d.0.1 ∙ ap Some d.1

begun : (n : ℕ) → n < 4294967296 → well_begun (decimal n) ≡ true
begun n h =
    let some = decimal_nonempty n (omega arith) in
    let few = tag_digits n h in
    let first : 0 < n → 48 < get_or (decimal n) 0 0 = λ p. first_decimal n p (omega arith) in
    let zero : n ≡ 0 → length (decimal n) ≡ 1 = λ e. ap (λ m. length (decimal m)) e ∙ ap length (decimal_digit 0 (omega arith)) in
    grind (arith, nat_tests)

number_decimal : (n : ℕ) → n < 4294967296 → number_of (decimal n) ≡ Some n
number_decimal n h = let e = begun n h in let r = read_decimal n (omega arith) in grind (arith, nat_tests)

letter_back : (s : Species) → letter_of (letter s) ≡ Some s
letter_back species.Spruce = refl
letter_back species.Pine = refl
letter_back species.Larch = refl
letter_back species.Douglas = refl

place_back : (p : Place) → place_of (place_word p) ≡ Some p
place_back place.Standing = refl
place_back place.AtSaw = refl

-- the fields of the line of a log
abbrev seven : Log → List (List ℕ)
seven x = codes "LOG" ∷ decimal x.tag ∷ letter x.rest.body.species ∷ decimal x.rest.body.diameter ∷ decimal x.rest.body.length ∷ decimal x.rest.body.bay ∷ place_word x.rest.place ∷ []

abbrev text : Log → List ℕ
text x = join_with_byte 9 (seven x)

-- the end of the line at the end
text_ended : (x : Log) → log_line x ≡ text x ++ (10 ∷ [])
unfolding log_line
text_ended x = simp append_assoc

text_fields : (x : Log) → x.tag < 4294967296 → x.rest.body.diameter < 65536 → x.rest.body.length < 65536 → x.rest.body.bay < 256 → fields (text x) ≡ seven x
text_fields x ht hd hl hb = fields_joined _ _ (
  (refl, (refl, (refl, tt))),
  (
    clear_decimal x.tag (omega arith),
    (
      clear_letter x.rest.body.species,
      (
        clear_decimal x.rest.body.diameter (omega arith),
        (
          clear_decimal x.rest.body.length (omega arith),
          (
            clear_decimal x.rest.body.bay (omega arith),
            (clear_place x.rest.place, tt),
          ),
        ),
      ),
    ),
  ),
)

text_length : (x : Log) → x.tag < 4294967296 → x.rest.body.diameter < 65536 → x.rest.body.length < 65536 → x.rest.body.bay < 256 → length (text x) ≤ 200
text_length x ht hd hl hb =
    simp length-append (omega (arith, tag_digits x.tag ht, size_digits x.rest.body.diameter hd, size_digits x.rest.body.length hl, byte_digits x.rest.body.bay hb, place_four x.rest.place))

in_limits : (x : Limits) (n k : ℕ) → Within x n → within x n k ≡ Ok n
in_limits x n k h = cond-true (allows x n) (Ok n) (refuse Outside k) (and_from (leb x.low n) (leb n x.high) (le-leb x.low n h.0) (le-leb n x.high h.1))

asked : (x : Log) → TagOk x.tag → BodyOk x.rest.body → worded (word_of (get_or (seven x) 0 [])) (seven x) ≡ Ok (request.Log x)
asked x ht hb =
    let t = x.tag in let s = x.rest.body.species in let d = x.rest.body.diameter in let l = x.rest.body.length in let b = x.rest.body.bay in let p = x.rest.place in
    rw (
      number_decimal t (omega (arith, ht.1)),
      letter_back s,
      number_decimal d (omega (arith, hb.0.1)),
      number_decimal l (omega (arith, hb.1.1)),
      number_decimal b (omega (arith, hb.2.1)),
      place_back p,
      in_limits tags t 1 ht,
      in_limits diameters d 3 hb.0,
      in_limits lengths l 4 hb.1,
      in_limits bays b 5 hb.2,
    )

pub reads_back : ReadsBack
reads_back x line ok e =
    let ht = ok.0 in
    let hb = ok.1 in
    let same : text x ≡ line = append_cancel_right (text x) line (10 ∷ []) (sym (text_ended x) ∙ e) in
    let lt : x.tag < 4294967296 = omega (arith, ht.1) in
    let ld : x.rest.body.diameter < 65536 = omega (arith, hb.0.1) in
    let ll : x.rest.body.length < 65536 = omega (arith, hb.1.1) in
    let lb : x.rest.body.bay < 256 = omega (arith, hb.2.1) in
    ap reads (sym same)
    ∙ cond-true (leb (length (text x)) 200) (worded (word_of (get_or (fields (text x)) 0 [])) (fields (text x))) (refuse LongLine 0) (le-leb (length (text x)) 200 (text_length x lt ld ll lb))
    ∙ ap (λ (fs : List (List ℕ)). worded (word_of (get_or fs 0 [])) fs) (text_fields x lt ld ll lb)
    ∙ asked x ht hb

-- what was written, up to the end of the line
module _ (x : Log) (old new : List ℕ) (n : ℕ) (w : Written 0 (log_line x) old new n) where
  long : n ≡ length (text x) + 1
  long = omega (arith, w.ends, ap length (text_ended x), length_push (text x) 10)

  pub ends : 1 ≤ n
  ends = omega (arith, long)

  front : (line : List ℕ) → LineOf x line → take (n - 1 - 0) new ≡ line
  front line e =
      let l : n - 1 - 0 ≡ length line = omega (arith, w.ends, ap length e, length_push line 10) in
      ap (take (n - 1 - 0)) (w.row ∙ ap (λ (bs : List ℕ). bs ++ drop n old) e ∙ append_assoc line (10 ∷ []) (drop n old))
      ∙ take_at line ((10 ∷ []) ++ drop n old) (n - 1 - 0) (sym l)

  pub reread : (r : Read Request) → r ≡ reads (take (n - 1 - 0) new) → Reread x r
  reread r e = record {
    says = λ line h. e ∙ ap reads (front line h);
    same = λ ok. e ∙ ap reads (front (text x) (text_ended x)) ∙ reads_back x (text x) ok (text_ended x);
  }
