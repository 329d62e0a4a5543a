-- What a LIST shows, out of the row of the size index.
use Rattle.std.proofs.Common.{◌≡◌, ℕ, ◌+◌, ◌≤◌, min, MatchOption, Bool, true, false, cond, not, eqb, ltb, leb, ◌⊎◌, List, [], ◌∷◌, ◌++◌, length, take, drop, is_some, Some, None, Ok, Option, sym, refl, ap, ◌∙◌, subst, inl, inr, ⊎_elim, append_assoc, arith, length-append, take-append-drop, length-take}
use Rattle.std.proofs.lemmas.Bool.{both_ways, cases_Bool, and_parts, and_from, eqb-true, eq-eqb, leb-true, le-leb, lt-ltb}
use Rattle.std.proofs.lemmas.Bool.Decides.{nat_tests}
use Rattle.ordered.specs.Meaning.{lookup, Ascending, After, same}
use Rattle.ordered.proofs.Lookups.{same_self, after_all}
use Rattle.ordered.proofs.Rows.{same_is}
use Rattle.logs.specs.declared.species.Species.{Species}
use Rattle.logs.specs.declared.keys.Size.{Size}
use Rattle.logs.specs.declared.log.Log.{Log}
use Rattle.logs.specs.Orders.{size_before}
use Rattle.logs.specs.Codes.{code}
use Rattle.log_yard.specs.Law.{Among, Later, InOrder}
use Rattle.log_yard.specs.Pages.{in_range, to_log, runs, drop_to, next_of, start, range}
use Rattle.std.proofs.lemmas.List.{take_at, length-take-le, drop-append-le}
use Rattle.ordered.specs.declared.index.OrderedIndex.{Ghosts}
use Rattle.logs.specs.declared.keys.Tag.{Tag}
use Rattle.logs.specs.declared.log.Rest.{Rest}
use Rattle.logs.specs.declared.log.Body.{Body}
use Rattle.logs.specs.declared.log.Place.TheVariants as place
use Rattle.logs.specs.declared.call.Call.TheVariants.{List as Lists}
use Rattle.log_yard.specs.declared.answer.Answer.TheVariants.{Listed}
use Rattle.log_yard.specs.declared.yard.Yard.{Yard}
use Rattle.log_yard.specs.Sizes.{size_of}
use Rattle.logs.specs.Limits.{DiameterOk}
use Rattle.log_yard.specs.History.{Loaded, History}
use Rattle.log_yard.specs.Law.{Stands, Between, Listing, Lawful, shown as count_shown}
use Rattle.log_yard.specs.Pages.{Filled}
use Rattle.log_yard.specs.Tells.{Tells, at}
use Rattle.log_yard.proofs.Steps.{key_of_bay, bay_there}
use Rattle.logs.specs.Lex.{code_injective, size_order}
use Rattle.log_yard.proofs.Fits.{lex_not, lex_less, lex_yes, fits_from, from_place}
use Rattle.log_yard.proofs.Walking.{behind}

later_runs : (s : Species) (e : ℕ) (p : Size × ℕ) (ps : List (Size × ℕ)) → After size_before p.0 ps → Later p.0.tag (to_log p).rest.body (runs s e ps)
later_runs s e p [] after = tt
later_runs s e p (q ∷ qs) after = elim (in_range s e q.0) as (λ t. Later p.0.tag (to_log p).rest.body (cond t (to_log q ∷ runs s e qs) [])) [ true ↦ (after.0, later_runs s e p qs after.1) | false ↦ tt ]

pub ordered_runs : (s : Species) (e : ℕ) (rest : List (Size × ℕ)) → Ascending size_before rest → InOrder (runs s e rest)
ordered_runs s e [] asc = tt
ordered_runs s e (p ∷ ps) asc = elim (in_range s e p.0) as (λ t. InOrder (cond t (to_log p ∷ runs s e ps) [])) [ true ↦ (later_runs s e p ps asc.0, ordered_runs s e ps asc.1) | false ↦ tt ]

-- keys that are not before the start
abbrev From : Species → ℕ → Size → Type 0
From s d k = size_before k (start s d) ≡ false

abbrev dropped : Species → ℕ → List (Size × ℕ) → List (Size × ℕ)
dropped s d row = drop_to (λ q. not (size_before q (start s d))) row

in_range_is : (s : Species) (e : ℕ) (k : Size) → in_range s e k ≡ true → (k.species ≡ s) × (k.diameter ≤ e)
in_range_is s e k r =
    let p = and_parts (eqb (code k.species) (code s)) (leb k.diameter e) r in
    (code_injective k.species s (eqb-true (code k.species) (code s) p.0), leb-true k.diameter e p.1)

is_in_range : (s : Species) (e : ℕ) (k : Size) → k.species ≡ s → k.diameter ≤ e → in_range s e k ≡ true
is_in_range s e k sp h = and_from _ _ (eq-eqb (code k.species) (code s) (ap code sp)) (le-leb k.diameter e h)

-- between the start and a key in range all is in range
between_range : (s : Species) (d e : ℕ) (q k : Size) → From s d q → size_before q k ≡ true → k.species ≡ s → k.diameter ≤ e → in_range s e q ≡ true
between_range s d e q k f b sp h =
    let up : code s ≤ code q.species = ⊎_elim (λ lt. omega (arith, lt)) (λ z. omega (arith, z.0)) (lex_not (code q.species) (code s) _ f) in
    ⊎_elim
    (λ lt. absurd (omega (arith, lt, up, ap code sp)))
    (λ z. and_from _ _ (eq-eqb (code q.species) (code s) (z.0 ∙ ap code sp)) (le-leb q.diameter e (omega (arith, lex_yes q.diameter k.diameter _ z.1, h))))
    (lex_less (code q.species) (code k.species) _ b)

-- each later key is from the start on too
from_later : (s : Species) (d : ℕ) (q k : Size) → From s d q → size_before q k ≡ true → From s d k
from_later s d q k f b = ⊎_elim (λ t. absurd (both_ways (size_before q (start s d)) f (size_order.transitive q k (start s d) b t))) (λ t. t) (cases_Bool (size_before k (start s d)))

found_in : (x k : Size) (u v : ℕ) (w : Option ℕ) → cond (same size_before x k) (Some u) w ≡ Some v → ((x ≡ k) × (u ≡ v)) ⊎ (w ≡ Some v)
found_in x k u v w e = go (same size_before x k) refl e
  where
    go : (c : Bool) → same size_before x k ≡ c → cond c (Some u) w ≡ Some v → ((x ≡ k) × (u ≡ v)) ⊎ (w ≡ Some v)
    go true ce e = let uv : u ≡ v = cc in inl (same_is size_order x k ce, uv)
    go false ce e = inr e

-- what is dropped is before the start, and all else stays
dropped_in : (s : Species) (d : ℕ) (row : List (Size × ℕ)) → Ascending size_before row → (k : Size) (v : ℕ) → lookup size_before (dropped s d row) k ≡ Some v → (lookup size_before row k ≡ Some v) × From s d k
dropped_in s d [] asc k v is = cc
dropped_in s d (p ∷ ps) asc k v is = go (size_before p.0 (start s d)) refl is (dropped_in s d ps asc.1 k v)
  where
    go : (t : Bool) → size_before p.0 (start s d) ≡ t → lookup size_before (cond (not t) (p ∷ ps) (dropped s d ps)) k ≡ Some v → (lookup size_before (dropped s d ps) k ≡ Some v → (lookup size_before ps k ≡ Some v) × From s d k) → (lookup size_before (p ∷ ps) k ≡ Some v) × From s d k
    go true te is ih = let q = ih is in (behind size_order p ps asc k v q.0, q.1)
    go false te is ih = (
      is,
      ⊎_elim (λ z. subst (From s d) z.0 te) (λ z. from_later s d p.0 k te (after_all size_order p.0 ps asc.0 k v z)) (found_in p.0 k p.1 v (lookup size_before ps k) is),
    )

stays_in : (s : Species) (d : ℕ) (row : List (Size × ℕ)) → (k : Size) (v : ℕ) → From s d k → lookup size_before row k ≡ Some v → lookup size_before (dropped s d row) k ≡ Some v
stays_in s d [] k v f is = is
stays_in s d (p ∷ ps) k v f is = go (size_before p.0 (start s d)) refl (stays_in s d ps k v f)
  where
    go : (t : Bool) → size_before p.0 (start s d) ≡ t → (lookup size_before ps k ≡ Some v → lookup size_before (dropped s d ps) k ≡ Some v) → lookup size_before (cond (not t) (p ∷ ps) (dropped s d ps)) k ≡ Some v
    go true te ih = ⊎_elim (λ z. absurd (both_ways (size_before k (start s d)) f (subst (λ y. size_before y (start s d) ≡ true) z.0 te))) ih (found_in p.0 k p.1 v (lookup size_before ps k) is)
    go false te ih = is

asc_dropped : (s : Species) (d : ℕ) (row : List (Size × ℕ)) → Ascending size_before row → Ascending size_before (dropped s d row)
asc_dropped s d [] asc = tt
asc_dropped s d (p ∷ ps) asc = elim (size_before p.0 (start s d)) as (λ t. Ascending size_before (cond (not t) (p ∷ ps) (dropped s d ps))) [ true ↦ asc_dropped s d ps asc.1 | false ↦ asc ]

-- what is shown is in the row
shown_in : (s : Species) (e : ℕ) (rest : List (Size × ℕ)) → Ascending size_before rest → (x : Log) → Among x (runs s e rest) → (p : Size × ℕ) × (x ≡ to_log p) × (lookup size_before rest p.0 ≡ Some p.1) × (in_range s e p.0 ≡ true)
shown_in s e [] asc x a = absurd a
shown_in s e (p ∷ ps) asc x a = go (in_range s e p.0) refl a (shown_in s e ps asc.1 x)
  where
    go : (t : Bool) → in_range s e p.0 ≡ t → Among x (cond t (to_log p ∷ runs s e ps) [])
        → (Among x (runs s e ps) → (q : Size × ℕ) × (x ≡ to_log q) × (lookup size_before ps q.0 ≡ Some q.1) × (in_range s e q.0 ≡ true))
        → (q : Size × ℕ) × (x ≡ to_log q) × (lookup size_before (p ∷ ps) q.0 ≡ Some q.1) × (in_range s e q.0 ≡ true)
    go true te a ih = ⊎_elim
        (λ i. (p, i, ap (λ c. cond c (Some p.1) (lookup size_before ps p.0)) (same_self size_order p.0), te))
        (λ b. let f = ih b in (f.0, f.1, behind size_order p ps asc f.0.0 f.0.1 f.2, f.3)) a
    go false te a ih = absurd a

-- each pair in range is shown, where nothing before it is out of range
among_runs : (s : Species) (d e : ℕ) (k : Size) (v : ℕ) → k.species ≡ s → k.diameter ≤ e → (rest : List (Size × ℕ)) → Ascending size_before rest → ((q : Size) (w : ℕ) → lookup size_before rest q ≡ Some w → From s d q) → lookup size_before rest k ≡ Some v → Among (to_log (k, v)) (runs s e rest)
among_runs s d e k v sp high [] asc from is = cc
among_runs s d e k v sp high (p ∷ ps) asc from is = ⊎_elim
    (λ z. subst (λ t. Among (to_log (k, v)) (cond t (to_log p ∷ runs s e ps) [])) (sym (is_in_range s e p.0 (ap (λ (q : Size). q.species) z.0 ∙ sp) (omega (arith, ap (λ (q : Size). q.diameter) z.0, high))))
    (inl (λ i. to_log (sym z.0 i, sym z.1 i))))
    (λ z. subst (λ t. Among (to_log (k, v)) (cond t (to_log p ∷ runs s e ps) []))
    (sym (between_range s d e p.0 k (from p.0 p.1 (ap (λ c. cond c (Some p.1) (lookup size_before ps p.0)) (same_self size_order p.0))) (after_all size_order p.0 ps asc.0 k v z) sp high))
    (inr (among_runs s d e k v sp high ps asc.1 (λ q w i. from q w (behind size_order p ps asc q w i)) z)))
    (found_in p.0 k p.1 v (lookup size_before ps k) is)

-- The range is the listing of the law.
module _ {T S : Type 0} (t : Ghosts T Tag Rest) (s : Ghosts S Size ℕ) (cap : ℕ) (ls : Loaded) (h : History) (y : Yard T S) (told : Tells t s cap ls h y) (asc_s : Ascending size_before (s.row y.sizes)) (sp : Species) (d e : ℕ) where
  each_shown : (p : Size × ℕ) → lookup size_before (s.row y.sizes) p.0 ≡ Some p.1 → Stands ls h p.0.tag (to_log p).rest.body
  each_shown p is =
      let f = key_of_bay (at (t.row y.tags) p.0.tag) p.0 p.1 (sym (told.sound.agree.bays p.0) ∙ is) in
      let b = f.0 in
      let there = bay_there t s cap ls h y told p.0.tag b f.1 in
      let bay : p.1 ≡ b.bay = same_bay p.1 b.bay (sym is ∙ ap (lookup size_before (s.row y.sizes)) f.2 ∙ there) in
      sym (told.logs p.0.tag) ∙ f.1 ∙ ap (λ z. Some (record { body = z; place = place.Standing })) (body_is p.0 b p.1 f.2 bay)
    where
      same_bay : (u v : ℕ) → Some u ≡ Some v → u ≡ v
      same_bay u v e = cc

      body_is : (k : Size) (b : Body) (v : ℕ) → k ≡ size_of k.tag b → v ≡ b.bay → b ≡ record { species = k.species; diameter = k.diameter; length = k.length; bay = v }
      body_is k b v ke ve = λ i. record { species = (sym ke i).species; diameter = (sym ke i).diameter; length = (sym ke i).length; bay = sym ve i }

  pub listing : Listing ls h sp d e (range (s.row y.sizes) sp d e)
  listing =
      let row = s.row y.sizes in
      let asc = asc_dropped sp d row asc_s in
      record {
        ordered = ordered_runs sp e (dropped sp d row) asc;
        each = λ x a.
            let f = shown_in sp e (dropped sp d row) asc x a in
            let g = dropped_in sp d row asc_s f.0.0 f.0.1 f.2 in
            let r = in_range_is sp e f.0.0 f.3 in
            subst (λ z. Stands ls h z.tag z.rest.body × (z.rest.place ≡ place.Standing) × Between sp d e z.rest.body) (sym f.1)
            (each_shown f.0 g.0, refl, (r.0, (from_place sp d 0 f.0.0 g.1 r.0).0, r.1));
        every = λ n b is f.
            let k = size_of n b in
            let there = stays_in sp d row k b.bay (fits_from sp d d 0 k (f.0, f.1, omega arith) f.1) (bay_there t s cap ls h y told n b (told.logs n ∙ is)) in
            among_runs sp d e k b.bay f.0 f.2 (dropped sp d row) asc (λ q w i. (dropped_in sp d row asc_s q w i).1) there;
      }

  pub list_ok : (page page' : List Log) (r : ℕ × Bool) → DiameterOk d × DiameterOk e → d ≤ e → Filled (range (s.row y.sizes) sp d e) page page' r
      → Lawful cap ls h (record { call = Lists sp d e; answer = Ok (Listed r.0 r.1); before = page; after = page' })
      × Tells t s cap ls (record { call = Lists sp d e; answer = Ok (Listed r.0 r.1); before = page; after = page' } ∷ h) y
  list_ok page page' r ok le filled = (
    record {
      answered = (λ _. (λ _. (range (s.row y.sizes) sp d e, listing, (λ i. Ok (Listed (filled.count i) (filled.more i))), filled.written), λ bad. absurd (bad le)), λ bad. absurd (bad ok));
      page = tt;
    },
    record { sound = told.sound; capped = told.capped; logs = told.logs },
  )

-- the next log of a walk, by the next pair
module _ (s : Species) (e : ℕ) (o : Option (Size × ℕ)) (rest rest' : List (Size × ℕ)) (step : MatchOption o ((rest ≡ []) × (rest' ≡ [])) (λ p. rest ≡ p ∷ rest')) (next : Option Log) (is : next ≡ next_of s e o) where
  log_step : MatchOption next (runs s e rest ≡ []) (λ x. runs s e rest ≡ x ∷ runs s e rest')
  log_step = subst (λ z. MatchOption z (runs s e rest ≡ []) (λ x. runs s e rest ≡ x ∷ runs s e rest')) (sym is) (go o step)
    where
      go : (o : Option (Size × ℕ)) → MatchOption o ((rest ≡ []) × (rest' ≡ [])) (λ p. rest ≡ p ∷ rest') → MatchOption (next_of s e o) (runs s e rest ≡ []) (λ x. runs s e rest ≡ x ∷ runs s e rest')
      go None h = ap (runs s e) h.0
      go (Some p) h = subst (λ z. MatchOption (next_of s e (Some p)) (runs s e z ≡ []) (λ x. runs s e z ≡ x ∷ runs s e rest')) (sym h)
          (elim (in_range s e p.0) as (λ t. MatchOption (cond t (Some (to_log p)) None) (cond t (to_log p ∷ runs s e rest') [] ≡ []) (λ x. cond t (to_log p ∷ runs s e rest') [] ≡ x ∷ runs s e rest')) [ true ↦ refl | false ↦ refl ])

  pub no_log : next ≡ None → runs s e rest ≡ []
  no_log n = subst (λ z. MatchOption z (runs s e rest ≡ []) (λ x. runs s e rest ≡ x ∷ runs s e rest')) n log_step

  pub more_logs : (m : Bool) → m ≡ is_some next → m ≡ ltb 0 (length (runs s e rest))
  more_logs m em = em ∙ go next log_step
    where
      go : (z : Option Log) → MatchOption z (runs s e rest ≡ []) (λ x. runs s e rest ≡ x ∷ runs s e rest') → is_some z ≡ ltb 0 (length (runs s e rest))
      go None h = ap (λ z. ltb 0 (length z)) (sym h)
      go (Some x) h = sym (lt-ltb 0 (length (runs s e rest)) (omega (arith, ap length h)))

pub none_more : {rs : List Log} → rs ≡ [] → false ≡ ltb 0 (length rs)
none_more e = ap (λ z. ltb 0 (length z)) (sym e)

-- what the loop comes to, at most k logs into the page
pub fill_done : (xs page shown rs : List Log) (n k r : ℕ) (m : Bool) → r ≡ n → k ≡ min (length page) 100 → n ≤ k → length shown ≡ length (take k page) → xs ≡ take n shown ++ rs → drop n shown ≡ drop n (take k page) → (length rs ≡ 0) ⊎ (k ≤ n) → m ≡ ltb 0 (length rs) → Filled xs page (shown ++ drop k page) (r, m)
fill_done xs page shown rs n k r m er ek hn el ex ed why em =
    let front : length (take n shown) ≡ n = length-take-le n shown (omega (arith, el, length-take k page)) in
    let long : length xs ≡ n + length rs = ap length ex ∙ length-append (take n shown) rs ∙ ap (λ z. z + length rs) front in
    let c : n ≡ count_shown xs page = ⊎_elim (λ z. omega (arith, z, long, ek)) (λ z. omega (arith, z, long, ek)) why in
    record {
      count = er ∙ c;
      more = em ∙ test (length rs) (count_shown xs page) (length xs) (omega (arith, long, c));
      written =
          ap (λ z. z ++ drop k page) (sym (take-append-drop n shown) ∙ ap (λ z. z ++ drop n shown) (sym (ap (take n) ex ∙ take_at (take n shown) rs n front)) ∙ ap (λ z. take n xs ++ z) ed)
          ∙ append_assoc (take n xs) (drop n (take k page)) (drop k page)
          ∙ ap (λ z. take n xs ++ z) (sym (drop-append-le n (take k page) (drop k page) (omega (arith, length-take k page))) ∙ ap (drop n) (take-append-drop k page))
          ∙ ap (λ z. take z xs ++ drop z page) c;
    }
  where
    test : (a b c : ℕ) → c ≡ b + a → ltb 0 a ≡ ltb b c
    test a b c e = grind (arith, nat_tests)
