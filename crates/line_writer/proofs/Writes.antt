-- One writing after another.
use Rattle.std.proofs.Common.{◌≡◌, ℕ, ◌+◌, ◌≤◌, ◌<◌, Bool, true, false, cond, List, [], ◌++◌, length, get_or, take, drop, sym, refl, ap, ◌∙◌, append_assoc, arith}
use mir.Val.{bool_byte}
use Rattle.std.proofs.lemmas.List.{length-append, length-take-le, length-drop, take_at, drop_at, drop-drop, flat_map_more, take_more}
use Rattle.std.specs.List.{flat_map}
use Rattle.logs.specs.declared.log.Log.{Log}
use Rattle.line_writer.specs.declared.row.Row.{Row}
use Rattle.line_writer.specs.Shows.{Written, Added, log_line}

length_front : (a p : ℕ) (xs old : List ℕ) → p ≡ a + length xs → p ≤ length old → length (take a old ++ xs) ≡ p
length_front a p xs old e h = let u : a ≤ length old = omega arith in omega (arith, length-append (take a old) xs, length-take-le a old u)

regroup : {a p : ℕ} {xs old new : List ℕ} → Written a xs old new p → new ≡ (take a old ++ xs) ++ drop p old
regroup {a = a} {p = p} {xs = xs} {old = old} w = w.row ∙ sym (append_assoc (take a old) xs (drop p old))

same_length : {a p : ℕ} {xs old new : List ℕ} → Written a xs old new p → length new ≡ length old
same_length {a = a} {p = p} {xs = xs} {old = old} w =
    omega (arith, ap length (regroup w), length-append (take a old ++ xs) (drop p old), length_front a p xs old w.ends w.room, length-drop p old, w.room)

then_written : {a p q : ℕ} {xs ys old mid new : List ℕ} → Written a xs old mid p → Written p ys mid new q → Written a (xs ++ ys) old new q
then_written {a = a} {p = p} {q = q} {xs = xs} {ys = ys} {old = old} {mid = mid} {new = new} v w =
    let front : take p mid ≡ take a old ++ xs = ap (take p) (regroup v) ∙ take_at (take a old ++ xs) (drop p old) p (length_front a p xs old v.ends v.room) in
    let back : drop p mid ≡ drop p old = ap (drop p) (regroup v) ∙ drop_at (take a old ++ xs) (drop p old) p (length_front a p xs old v.ends v.room) in
    let rest : drop q mid ≡ drop q old =
    ap (λ (n : ℕ). drop n mid) w.ends ∙ sym (drop-drop (length ys) p mid) ∙ ap (drop (length ys)) back ∙ drop-drop (length ys) p old ∙ ap (λ (n : ℕ). drop n old) (sym w.ends) in
    record {
      row = w.row ∙ ap (λ (x : List ℕ). x ++ (ys ++ drop q mid)) front ∙ ap (λ (x : List ℕ). (take a old ++ xs) ++ (ys ++ x)) rest
          ∙ append_assoc (take a old) xs (ys ++ drop q old) ∙ ap (λ (x : List ℕ). take a old ++ x) (sym (append_assoc xs ys (drop q old)));
      ends = omega (arith, v.ends, w.ends, length-append xs ys);
      room = omega (arith, w.room, same_length v);
    }

-- what is added after what was added
pub ◌and◌ : {xs ys : List ℕ} {old mid new : Row} → Added xs old mid → Added ys mid new → Added (xs ++ ys) old new
◌and◌ v w = record { same = w.same ∙ v.same; written = then_written v.written w.written }

infixr 5 ◌and◌
-- the line of one log more
pub one_more : (xs : List Log) (i : ℕ) (d : Log) {old mid new : Row} → i < length xs → Added (flat_map log_line (take i xs)) old mid → Added (log_line (get_or xs i d)) mid new → Added (flat_map log_line (take (i + 1) xs)) old new
one_more xs i d h v w = rw (take_more xs i d h, ← flat_map_more log_line [] (take i xs) (get_or xs i d)) (v and w)

pub flag : (b : Bool) → bool_byte b ≡ cond b 1 0
flag true = refl
flag false = refl
