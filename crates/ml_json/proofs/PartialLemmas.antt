-- One more byte of a character.
use Rattle.std.proofs.Common.{◌≡◌, ℕ, List, [], ◌∷◌, ◌++◌, true, Option, Some, None, sym, ◌∙◌, ap, subst, append_assoc, append-nil}
use Rattle.std.specs.Str.{is_utf8, IsUtf8}
use Rattle.std.proofs.lemmas.Str.{IsUtf8-from_is_utf8}
use Rattle.ml_json.specs.Characters.{Tail, low, high, later, Follows, end, next}
use Rattle.ml_ratio.specs.JsonNumber.{is_between}

-- with one byte more of a character, all that may still follow makes it text
pub partial_more : (got new : List ℕ) (b : ℕ) (t : Tail) (o : Option Tail) → new ≡ got ++ b ∷ [] → is_between (low t) (high t) b ≡ true → later t ≡ o
    → ((cs : List ℕ) → Follows (Some t) cs → is_utf8 (got ++ cs) ≡ true) → (cs : List ℕ) → Follows o cs → is_utf8 (new ++ cs) ≡ true
partial_more got new b t o e h l whole cs f =
    ap (λ x. is_utf8 (x ++ cs)) e ∙ ap is_utf8 (append_assoc got (b ∷ []) cs) ∙ whole (b ∷ cs) (next h (subst (λ q. Follows q cs) (sym l) f))

-- with the last byte of a character, what is held is text
pub partial_done : (got new : List ℕ) (b : ℕ) (t : Tail) → new ≡ got ++ b ∷ [] → is_between (low t) (high t) b ≡ true → later t ≡ None
    → ((cs : List ℕ) → Follows (Some t) cs → is_utf8 (got ++ cs) ≡ true) → IsUtf8 new
partial_done got new b t e h l whole = IsUtf8-from_is_utf8 new (ap is_utf8 (sym (append-nil new)) ∙ partial_more got new b t None e h l whole [] end)
