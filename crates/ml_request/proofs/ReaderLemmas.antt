-- What was read is what comes next.
use Rattle.std.proofs.Common.{◌≡◌, ℕ, ◌+◌, ◌-◌, ◌<◌, ◌≤◌, min, Bool, List, ◌++◌, length, take, drop, ap, ◌∙◌, sym, subst, arith, inr, length-append, append_assoc, Option, Some, None, Result, Ok, Err}
use Rattle.std.proofs.lemmas.List.{take-append-drop, drop-append-le, length-take, length-drop, drop-drop}
use Rattle.std.proofs.Math.Seq.{take-length, take-append_seam, drop-append_seam}
use Rattle.ml_io.specs.Takes.{Draws}
use Rattle.ml_request.specs.declared.request.Event.{Event}
use Rattle.ml_request.specs.declared.request.Event.TheVariants.{Whole, Refused}
use Rattle.ml_request.specs.declared.request.ReadFault.{ReadFault}
use Rattle.ml_request.specs.declared.request.ReadFault.TheVariants.{Failed, Memory}
use Rattle.ml_request.specs.Request.{RequestParts, HeadParts}
use Rattle.ml_request.specs.Held.{Gains}
use Rattle.ml_request.specs.Stream.{HasNoMark, BeginsWithHead, IsHeadTooLong, BeginsWithRequest, request_of}
use Rattle.ml_request.specs.Reading.{IsRequestOf, IsEventOf}
use Rattle.ml_request.proofs.Marks.{size_fits}
use Rattle.ml_request.proofs.lemmas.Streams.{head_grows}
use Rattle.ml_request.proofs.lemmas.Takes.{takes_twice}

-- a full buffer without a mark holds a head that is too long
pub full : (held : List ℕ) → length held ≡ 16384 → HasNoMark held → IsHeadTooLong held
full held size none =
    let all : take 16384 held ≡ held = subst (λ n. take n held ≡ held) size (take-length held) in
    (omega arith, subst HasNoMark (sym all) none)

-- a body behind a good head makes the request
whole_request : (last : Bool) (mid taken after body : List ℕ) (size : ℕ) (parts : HeadParts) (request : RequestParts) → BeginsWithHead mid size (Ok parts) →
    request ≡ request_of last parts body → drop size mid ++ taken ≡ body ++ after → length body ≡ parts.length → BeginsWithRequest last (mid ++ taken) request after
whole_request last mid taken after body size parts request head is all count =
    let fits : size ≤ length mid = size_fits mid size head.ends in
    let behind : drop size (mid ++ taken) ≡ body ++ after = drop-append-le size mid taken fits ∙ all in
    let total : length (drop size mid) + length taken ≡ length body + length after = sym (length-append (drop size mid) taken) ∙ ap length all ∙ length-append body after in
    let front : take parts.length (drop size (mid ++ taken)) ≡ body = ap (take parts.length) behind ∙ subst (λ n. take n (body ++ after) ≡ body) count (take-append_seam body after) in
    let back : drop parts.length (drop size (mid ++ taken)) ≡ after = ap (drop parts.length) behind ∙ subst (λ n. drop n (body ++ after) ≡ after) count (drop-append_seam body after) in
    record {
      size = size;
      parts = parts;
      head = head_grows mid taken size (Ok parts) head;
      whole = omega (arith, fits, total, count, length-append mid taken, length-drop size mid);
      is = is ∙ ap (request_of last parts) (sym front);
      behind = sym back ∙ drop-drop parts.length size (mid ++ taken);
    }

-- where the body did not come whole, the bytes end in it
ends_in_body : (mid taken : List ℕ) (size : ℕ) (parts : HeadParts) → BeginsWithHead mid size (Ok parts) → length (drop size mid ++ taken) < parts.length → length (mid ++ taken) < size + parts.length
ends_in_body mid taken size parts head short =
    omega (arith, size_fits mid size head.ends, length-append mid taken, length-append (drop size mid) taken, length-drop size mid, short)

-- what was read behind a good head is the next event
pub event_behind : (last : Bool) (mid taken after : List ℕ) (size : ℕ) (parts : HeadParts) (left : Option (List ℕ)) (result : Result (Option Event) ReadFault) →
    BeginsWithHead mid size (Ok parts) → IsRequestOf last parts (drop size mid ++ taken) after left result → IsEventOf last (mid ++ taken) after left result
event_behind last mid taken after size parts left (Ok (Some (Whole request))) head read = whole_request last mid taken after read.0 size parts request head read.1 read.2 read.3
event_behind last mid taken after size parts left (Ok (Some (Refused refusal))) head read = absurd read
event_behind last mid taken after size parts left (Ok None) head read =
    (inr (size, parts, head_grows mid taken size (Ok parts) head, ends_in_body mid taken size parts head read.0), read.1)
event_behind last mid taken after size parts left (Err Failed) head read =
    inr (size, parts, head_grows mid taken size (Ok parts) head, ends_in_body mid taken size parts head read)
event_behind last mid taken after size parts left (Err Memory) head read = tt

-- the bytes of the head and of what came behind it, together
pub event_read : (last : Bool) (a b c : Option (List ℕ)) (held mid after : List ℕ) (size : ℕ) (parts : HeadParts) (result : Result (Option Event) ReadFault) →
    Gains a b held mid → BeginsWithHead mid size (Ok parts) → (passed taken : List ℕ) → passed ≡ drop size mid → Draws b c taken →
    IsRequestOf last parts (passed ++ taken) after c result → (all : List ℕ) × Draws a c all × IsEventOf last (held ++ all) after c result
event_read last a b c held mid after size parts result gains head passed taken is takes read =
    let joined : mid ++ taken ≡ held ++ (gains.taken ++ taken) = ap (λ xs. xs ++ taken) gains.behind ∙ append_assoc held gains.taken taken in (
      gains.taken ++ taken,
      takes_twice a b c gains.taken taken gains.takes takes,
      subst (λ bytes. IsEventOf last bytes after c result) joined (event_behind last mid taken after size parts c result head (rw is at read)),
    )

-- bytes that were moved behind the body stay in order
pub moved : (all body held body_after held_after : List ℕ) (wanted : ℕ) → all ≡ body ++ held → body_after ≡ body ++ take wanted held → held_after ≡ drop wanted held → all ≡ body_after ++ held_after
moved all body held body_after held_after wanted is front back =
    is ∙ ap (λ xs. body ++ xs) (sym (take-append-drop wanted held)) ∙ sym (append_assoc body (take wanted held) (drop wanted held))
    ∙ ap (λ xs. xs ++ drop wanted held) (sym front) ∙ ap (λ xs. body_after ++ xs) (sym back)

-- as many bytes were moved as were wanted, or all
pub moved_count : (body held body_after held_after : List ℕ) (size wanted : ℕ) → length body ≤ size → wanted ≡ size - length body →
    body_after ≡ body ++ take wanted held → held_after ≡ drop wanted held → (length body_after ≤ size) × (length body_after < size → length held_after ≡ 0)
moved_count body held body_after held_after size wanted short is front back =
    let count : length body_after ≡ length body + min wanted (length held) = ap length front ∙ length-append body (take wanted held) ∙ ap (λ n. length body + n) (length-take wanted held) in
    let rest : length held_after ≡ length held - wanted = ap length back ∙ length-drop wanted held in
    (omega (arith, count), λ less. omega (arith, count, rest, less))

-- the bytes of one more piece
pub gained : (fn taken body held more held_after : List ℕ) → fn ++ taken ≡ body ++ held → held_after ≡ held ++ more → fn ++ (taken ++ more) ≡ body ++ held_after
gained fn taken body held more held_after is behind =
    sym (append_assoc fn taken more) ∙ ap (λ xs. xs ++ more) is ∙ append_assoc body held more ∙ ap (λ xs. body ++ xs) (sym behind)
