-- What each call that is answered comes to, under the law.
use Rattle.std.proofs.Common.{◌≡◌, ℕ, ◌<◌, ◌≤◌, Bool, true, false, cond, ◌&&◌, List, ◌∷◌, length, is_some, Some, None, Ok, Err, Option, Result, sym, refl, ap, ◌∙◌, subst, inl, inr, ⊎_elim, arith}
use Rattle.std.proofs.lemmas.Bool.{true≢false}
use Rattle.std.specs.Option.{ok_or}
use denote.Enum.Bare.{sameb}
use Rattle.ordered.specs.declared.fault.Fault.{Fault}
use Rattle.ordered.specs.declared.index.OrderedIndex.{Ghosts}
use Rattle.ordered.specs.Meaning.{lookup, same, Ascending}
use Rattle.ordered.specs.Promises.{Puts, Sets, Takes}
use Rattle.ordered.proofs.Lookups.{same_self}
use Rattle.ordered.proofs.Rows.{same_is}
use Rattle.logs.specs.contracts.log.Place.{the_type}
use Rattle.logs.specs.declared.call.Call.{Call}
use Rattle.logs.specs.declared.call.Call.TheVariants.{Arrive, Withdraw, Call as Calls, Saw, Back}
use Rattle.logs.specs.declared.keys.Size.{Size}
use Rattle.logs.specs.declared.keys.Tag.{Tag}
use Rattle.logs.specs.declared.log.Body.{Body}
use Rattle.logs.specs.declared.log.Log.{Log}
use Rattle.logs.specs.declared.log.Place.{Place}
use Rattle.logs.specs.declared.log.Place.TheVariants as place
use Rattle.logs.specs.declared.log.Rest.{Rest}
use Rattle.logs.specs.declared.species.Species.{Species}
use Rattle.logs.specs.Lex.{size_order}
use Rattle.logs.specs.Limits.{TagOk, BodyOk, DiameterOk, LengthOk}
use Rattle.logs.specs.Orders.{tag_before, size_before}
use Rattle.log_yard.specs.declared.answer.Answer.TheVariants.{Done, Found}
use Rattle.log_yard.specs.declared.answer.Answer.{Answer}
use Rattle.log_yard.specs.declared.refusal.Refusal.{Refusal}
use Rattle.log_yard.specs.declared.refusal.Refusal.TheVariants as refusal
use Rattle.log_yard.specs.declared.yard.Yard.{Yard}
use Rattle.log_yard.specs.Fitting.{LimitsOf, KeyFits, FirstFit}
use Rattle.log_yard.specs.History.{Loaded, History, log_at, present, event}
use Rattle.log_yard.specs.Law as law
use Rattle.log_yard.specs.Law.{Lawful}
use Rattle.log_yard.specs.Refusals.{refusal_number}
use Rattle.log_yard.specs.Sizes.{size_of, stands}
use Rattle.log_yard.specs.Tells.{at, bay_at, elsewhere, place_number, Agree, Tells, Sought, SoughtAt, capacity}
use Rattle.log_yard.proofs.Changes.{standing, sawing, tag_of, tag_put, tag_set, tag_take, size_put, size_take, size_still, down_none, down_saw, still, bays_at, changed}
use Rattle.log_yard.proofs.Counts.{present_like}
use Rattle.log_yard.proofs.Places.{logs_arrive, logs_withdraw, logs_back, logs_call}
use Rattle.log_yard.proofs.Tallies.{tally_length}

pub rest_is : (r : Rest) (p : Place) → r.place ≡ p → r ≡ record { body = r.body; place = p }
rest_is r p e = λ i. record { body = r.body; place = e i }

some_inside : {X : Type 0} (x y : X) → Some x ≡ Some y → x ≡ y
some_inside x y e = cc

-- what an `ok_or` gives where there is nothing
pub ok_or_none : {X E : Type 0} (o : Option X) (d e : E) → o ≡ None → ◌≡◌ {A = Result X E} (Err e) (ok_or o d) → e ≡ d
ok_or_none None d e n h = cc
ok_or_none (Some x) d e n h = cc

pub none_of : {X : Type 0} (o : Option X) → is_some o ≡ false → o ≡ None
none_of None e = refl
none_of (Some x) e = absurd (true≢false e)

-- a log that is not at the place
pub apart : (x p : Place) → false ≡ sameb the_type x p → x ≡ elsewhere p
apart place.Standing place.Standing e = cc
apart place.Standing place.AtSaw e = refl
apart place.AtSaw place.Standing e = refl
apart place.AtSaw place.AtSaw e = cc

pub not_there : (row : List (Tag × Rest)) (n : ℕ) (r : Rest) (p : Place) (e : Refusal) → Sought row n (Ok r) → false ≡ sameb the_type r.place p → refusal_number e ≡ place_number r.place → SoughtAt row n p (Err e)
not_there row n r p e sought ne number =
    let q = apart r.place p ne in
    inr (number ∙ ap place_number q, sought.0, (r.body, sought.1 ∙ ap Some (rest_is r (elsewhere p) q)))

-- a tag that is outside the limits or absent, and a log that is elsewhere
module _ (row : List (Tag × Rest)) (n : ℕ) (e : Refusal) (o : Option Rest) (F : Option Rest → Type 0) (is : at row n ≡ o) (absent : refusal_number e ≡ 22 → F None) where
  unsought : Sought row n (Err e) → law.unless 14 (TagOk n) (Err e) (F o)
  unsought (inl a) = (λ ok. absurd (a.1 ok), λ _. a.0)
  unsought (inr a) = (λ _. subst F (sym a.2 ∙ is) (absent a.0), λ bad. absurd (bad a.1))

  unsought_at : (p : Place) → ((b : Body) → refusal_number e ≡ place_number (elsewhere p) → F (Some (record { body = b; place = elsewhere p }))) → SoughtAt row n p (Err e) → law.unless 14 (TagOk n) (Err e) (F o)
  unsought_at p there (inl a) = unsought a
  unsought_at p there (inr a) = (λ _. subst F (sym a.2.1 ∙ is) (there a.2.0 a.0), λ bad. absurd (bad a.1))

arrive_done : (cap m : ℕ) (o : Option Rest) → o ≡ None → (m ≡ cap → ⊥) → law.arrived cap m o (Ok Done)
arrive_done cap m o e ne = subst (λ z. law.arrived cap m z (Ok Done)) (sym e) (λ q. absurd (ne q), λ _. refl)

arrive_full : (cap m : ℕ) (o : Option Rest) → o ≡ None → m ≡ cap → law.arrived cap m o (Err refusal.Full)
arrive_full cap m o e eq = subst (λ z. law.arrived cap m z (Err refusal.Full)) (sym e) (λ _. refl, λ ne. absurd (ne eq))

-- a bay in the size index is that of a standing log
pub key_of_bay : (o : Option Rest) (k : Size) (v : ℕ) → bay_at o k ≡ Some v → (b : Body) × (o ≡ Some (standing b)) × (k ≡ size_of k.tag b)
key_of_bay None k v e = cc
key_of_bay (Some r) k v e = go r.place refl (same size_before (size_of k.tag r.body) k) refl e
  where
    go : (p : Place) → r.place ≡ p → (c : Bool) → same size_before (size_of k.tag r.body) k ≡ c → cond (stands (record { body = r.body; place = p }) && c) (Some r.body.bay) None ≡ Some v → (b : Body) × (Some r ≡ Some (standing b)) × (k ≡ size_of k.tag b)
    go place.Standing pe true ce e = (r.body, ap Some (rest_is r place.Standing pe), sym (same_is size_order (size_of k.tag r.body) k ce))
    go place.Standing pe false ce e = cc
    go place.AtSaw pe true ce e = cc
    go place.AtSaw pe false ce e = cc

limits_of : (tags : List (Tag × Rest)) (sizes : List (Size × ℕ)) → Agree tags sizes → LimitsOf sizes
limits_of tags sizes agree k v is =
    let f = key_of_bay (at tags k.tag) k v (sym (agree.bays k) ∙ is) in
    let l = agree.limits k.tag (standing f.0) f.1 in
    omega (arith, l.1.0, ap (λ (z : Size). z.diameter) f.2)

module _ {T S : Type 0} (t : Ghosts T Tag Rest) (s : Ghosts S Size ℕ) (cap : ℕ) (ls : Loaded) (h : History) (y : Yard T S) (told : Tells t s cap ls h y) where
  -- a standing log is in the size index under its key
  pub bay_there : (n : ℕ) (b : Body) → at (t.row y.tags) n ≡ Some (standing b) → lookup size_before (s.row y.sizes) (size_of n b) ≡ Some b.bay
  bay_there n b is = bays_at t s cap ls h y told n _ is (size_of n b) refl ∙ ap (λ c. cond c (Some b.bay) None) (same_self size_order (size_of n b))

module _ {T S : Type 0} (t : Ghosts T Tag Rest) (s : Ghosts S Size ℕ) (cap : ℕ) (ls : Loaded) (h : History) (y : Yard T S) (told : Tells t s cap ls h y) (p : List Log) where
  -- The call is lawfully answered, and the yard y' tells of it.
  abbrev Told : Call → Result Answer Refusal → Yard T S → Type 0
  Told c r y' = Lawful cap ls h (event c r p) × Tells t s cap ls (event c r p ∷ h) y'

  module _ (n : ℕ) where
    -- what is there, by the history
    is_by : (o : Option Rest) → at (t.row y.tags) n ≡ o → log_at ls h n ≡ o
    is_by o is = sym (told.logs n) ∙ is

    pub withdraw_no : (e : Refusal) → SoughtAt (t.row y.tags) n place.Standing (Err e) → Told (Withdraw n) (Err e) y
    withdraw_no e sought = (record { answered = unsought_at (t.row y.tags) n e _ (λ o. law.withdrawn o (Err e)) (told.logs n) (λ z. z) place.Standing (λ _ z. z) sought; page = refl }, still t s cap ls h y told _ (λ _. refl))

    -- SAW and BACK are refused alike
    at_saw_no : (e : Refusal) → SoughtAt (t.row y.tags) n place.AtSaw (Err e) → law.unless 14 (TagOk n) (Err e) (law.at_saw_only (log_at ls h n) (Err e))
    at_saw_no e sought = unsought_at (t.row y.tags) n e _ (λ o. law.at_saw_only o (Err e)) (told.logs n) (λ z. z) place.AtSaw (λ _ z. z) sought

    pub saw_no : (e : Refusal) → SoughtAt (t.row y.tags) n place.AtSaw (Err e) → Told (Saw n) (Err e) y
    saw_no e sought = (record { answered = at_saw_no e sought; page = refl }, still t s cap ls h y told _ (λ _. refl))

    pub back_no : (e : Refusal) → SoughtAt (t.row y.tags) n place.AtSaw (Err e) → Told (Back n) (Err e) y
    back_no e sought = (record { answered = at_saw_no e sought; page = refl }, still t s cap ls h y told _ (λ _. refl))

    module _ (b : Body) (lacks : is_some (at (t.row y.tags) n) ≡ false) (asc : Ascending tag_before (t.row y.tags)) (ok : TagOk n × BodyOk b) where
      -- as many logs are present as the row has
      present_now : length (t.row y.tags) ≡ present ls h
      present_now = present_like ls h (t.row y.tags) asc (λ n r e. (told.sound.agree.limits n r e).0.1) told.logs

      none_by : log_at ls h n ≡ None
      none_by = is_by None (none_of (at (t.row y.tags) n) lacks)

      pub arrive_full_ok : capacity t s y ≤ length (t.row y.tags) → Told (Arrive n b) (Err refusal.Full) y
      arrive_full_ok over = (
        record { answered = (λ _. arrive_full cap (present ls h) _ none_by (omega (arith, present_now, told.capped, told.sound.room, over)), λ bad. absurd (bad ok)); page = refl },
        still t s cap ls h y told _ (λ _. refl),
      )

      pub arrive_ok : {X : Type 0} (y' : Yard T S) (k : Size) (r r' : Result X Fault) → k ≡ size_of n b → length (t.row y.tags) < capacity t s y
          → Puts t.row t.room t.kept tag_before y.tags (tag_of n) (standing b) r y'.tags
          → Puts s.row s.room s.kept size_before y.sizes k b.bay r' y'.sizes
          → Told (Arrive n b) (Ok Done) y'
      arrive_ok y' k r r' ke room put put' =
          let none = none_of (at (t.row y.tags) n) lacks in
          let fewer : length (s.row y.sizes) < s.room y.sizes = omega (arith, room, told.sound.agree.count, tally_length stands (t.row y.tags)) in (
            record { answered = (λ _. arrive_done cap (present ls h) _ none_by (λ q. omega (arith, q, present_now, told.capped, room)), λ bad. absurd (bad ok)); page = refl },
            changed t s cap ls h y told _ y' n None (Some (standing b))
                (tag_put t y.tags y'.tags n r told.sound.tags_kept (standing b) none (omega (arith, room)) put)
                (size_put s y.sizes y'.sizes n None _ told.sound.sizes_kept (bays_at t s cap ls h y told n None none) r' b k ke refl down_none fewer put')
                (omega (arith, room))
                (λ x e. (ok.0, subst (λ (z : Rest). BodyOk z.body) (some_inside _ x e) ok.1))
                (λ q. logs_arrive ls h p n b q),
          )

    pub withdraw_ok : {X : Type 0} (y' : Yard T S) (b : Body) (k : Size) (r r' : Result X Fault) → SoughtAt (t.row y.tags) n place.Standing (Ok b) → k ≡ size_of n b
        → Takes t.row t.room t.kept tag_before y.tags (tag_of n) r y'.tags
        → Takes s.row s.room s.kept size_before y.sizes k r' y'.sizes
        → Told (Withdraw n) (Ok Done) y'
    withdraw_ok y' b k r r' sought ke take take' = (
      record { answered = (λ _. subst (λ o. law.withdrawn o (Ok Done)) (sym (is_by _ sought.1)) refl, λ bad. absurd (bad sought.0)); page = refl },
      changed t s cap ls h y told _ y' n (Some (standing b)) None
          (tag_take t y.tags y'.tags n r told.sound.tags_kept (standing b) sought.1 take)
          (size_take s y.sizes y'.sizes n _ None told.sound.sizes_kept (bays_at t s cap ls h y told n _ sought.1) r' b k ke refl down_none take')
          (omega (arith, told.sound.room)) (λ x e. cc) (λ q. logs_withdraw ls h p n q),
    )

    pub saw_ok : {X : Type 0} (y' : Yard T S) (b : Body) (r : Result X Fault) → SoughtAt (t.row y.tags) n place.AtSaw (Ok b) → y'.sizes ≡ y.sizes
        → Takes t.row t.room t.kept tag_before y.tags (tag_of n) r y'.tags
        → Told (Saw n) (Ok Done) y'
    saw_ok y' b r sought same take = (
      record { answered = (λ _. subst (λ o. law.at_saw_only o (Ok Done)) (sym (is_by _ sought.1)) refl, λ bad. absurd (bad sought.0)); page = refl },
      changed t s cap ls h y told _ y' n (Some (sawing b)) None
          (tag_take t y.tags y'.tags n r told.sound.tags_kept (sawing b) sought.1 take)
          (size_still s y.sizes y'.sizes n _ None told.sound.sizes_kept (bays_at t s cap ls h y told n _ sought.1) same (down_saw b) down_none)
          (omega (arith, told.sound.room)) (λ x e. cc) (λ q. logs_withdraw ls h p n q),
    )

    -- a body that was within the limits still is, wherever the log goes
    limits_at : (was r : Rest) → at (t.row y.tags) n ≡ Some was → was.body ≡ r.body → (x : Rest) → Some r ≡ Some x → TagOk n × BodyOk x.body
    limits_at was r is be x e =
        let old = told.sound.agree.limits n was is in
        (old.0, subst BodyOk (be ∙ ap (λ (z : Rest). z.body) (some_inside r x e)) old.1)

    pub back_ok : {X : Type 0} (y' : Yard T S) (b : Body) (k : Size) (r r' : Result X Fault) → SoughtAt (t.row y.tags) n place.AtSaw (Ok b) → k ≡ size_of n b
        → Sets t.row t.room t.kept tag_before y.tags (tag_of n) (standing b) r y'.tags
        → Puts s.row s.room s.kept size_before y.sizes k b.bay r' y'.sizes
        → Told (Back n) (Ok Done) y'
    back_ok y' b k r r' sought ke set put =
        let tags = tag_set t y.tags y'.tags n r told.sound.tags_kept (sawing b) (standing b) sought.1 set in
        let room : length (s.row y.sizes) < s.room y.sizes = omega (arith, tags.count, tags.long, tally_length stands (t.row y'.tags), told.sound.agree.count, told.sound.room) in (
          record { answered = (λ _. subst (λ o. law.at_saw_only o (Ok Done)) (sym (is_by _ sought.1)) refl, λ bad. absurd (bad sought.0)); page = refl },
          changed t s cap ls h y told _ y' n (Some (sawing b)) (Some (standing b)) tags
              (size_put s y.sizes y'.sizes n _ _ told.sound.sizes_kept (bays_at t s cap ls h y told n _ sought.1) r' b k ke refl (down_saw b) room put)
              (omega (arith, told.sound.room)) (limits_at (sawing b) (standing b) sought.1 refl)
              (λ q. logs_back ls h p n (sawing b) (is_by _ sought.1) q),
        )

  module _ (sp : Species) (d l : ℕ) (ok : DiameterOk d × LengthOk l) (o : Option Size) (sought : s.kept y.sizes → LimitsOf (s.row y.sizes) → FirstFit (s.row y.sizes) sp d l o) where
    first_is : (o' : Option Size) → o ≡ o' → FirstFit (s.row y.sizes) sp d l o'
    first_is o' e = subst (FirstFit (s.row y.sizes) sp d l) e (sought told.sound.sizes_kept (limits_of (t.row y.tags) (s.row y.sizes) told.sound.agree))

    pub call_none : o ≡ None → Told (Calls sp d l) (Err refusal.NoneFits) y
    call_none e = (
      record { answered = (λ _. (refl, λ n b is f. first_is None e (size_of n b) b.bay (bay_there t s cap ls h y told n b (told.logs n ∙ is)) f), λ bad. absurd (bad ok)); page = refl },
      still t s cap ls h y told _ (λ _. refl),
    )

    module _ (k : Size) (found : o ≡ Some k) (got : Option Rest) (get : t.kept y.tags → got ≡ at (t.row y.tags) k.tag) where
      first : FirstFit (s.row y.sizes) sp d l (Some k)
      first = first_is (Some k) found

      the_log : (b : Body) × (at (t.row y.tags) k.tag ≡ Some (standing b)) × (k ≡ size_of k.tag b)
      the_log = key_of_bay (at (t.row y.tags) k.tag) k first.1.0 (sym (told.sound.agree.bays k) ∙ first.1.1)

      got_it : got ≡ Some (standing the_log.0)
      got_it = get told.sound.tags_kept ∙ the_log.1

      pub not_lost : got ≡ None → ⊥
      not_lost e = let f = sym e ∙ got_it in cc

      fits_first : (b : Body) → at (t.row y.tags) k.tag ≡ Some (standing b) → k ≡ size_of k.tag b → law.called ls h sp d l (Ok (Found (record { tag = k.tag; rest = sawing b })))
      fits_first b is ke = (
        is_by k.tag _ is,
        refl,
        subst (KeyFits sp d l) ke first.0,
        λ n b' is' f ne. ⊎_elim
            (λ e. absurd (ne (ap (λ (z : Size). z.tag) e)))
            (λ e. subst (λ z. size_before z (size_of n b') ≡ true) ke e)
            (first.2 (size_of n b') b'.bay (bay_there t s cap ls h y told n b' (told.logs n ∙ is')) f),
      )

      pub call_ok : {X : Type 0} (y' : Yard T S) (was : Rest) (r r' : Result X Fault) → got ≡ Some was
          → Sets t.row t.room t.kept tag_before y.tags (tag_of k.tag) (sawing was.body) r y'.tags
          → Takes s.row s.room s.kept size_before y.sizes k r' y'.sizes
          → Told (Calls sp d l) (Ok (Found (record { tag = k.tag; rest = sawing was.body }))) y'
      call_ok y' was r r' there set take =
          let n = k.tag in
          let b = was.body in
          let be : the_log.0 ≡ b = ap (λ (z : Rest). z.body) (some_inside (standing the_log.0) was (sym got_it ∙ there)) in
          let is : at (t.row y.tags) n ≡ Some (standing b) = the_log.1 ∙ ap (λ z. Some (standing z)) be in
          let ke : k ≡ size_of n b = the_log.2 ∙ ap (size_of n) be in (
            record { answered = (λ _. fits_first b is ke, λ bad. absurd (bad ok)); page = refl },
            changed t s cap ls h y told _ y' n (Some (standing b)) (Some (sawing b))
                (tag_set t y.tags y'.tags n r told.sound.tags_kept (standing b) (sawing b) is set)
                (size_take s y.sizes y'.sizes n _ _ told.sound.sizes_kept (bays_at t s cap ls h y told n _ is) r' b k ke refl (down_saw b) take)
                (omega (arith, told.sound.room)) (limits_at n (standing b) (sawing b) is refl)
                (λ q. logs_call ls h p n (standing b) (is_by n _ is) sp d l (record { tag = n; rest = sawing b }) refl q),
          )
