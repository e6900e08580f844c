-- The faults of a style, and the answers of its reader.
use Rattle.std.proofs.Common.{◌≡◌, ℕ, List, [], ◌++◌, Option, Some, Result, Ok, Err, sym, ap, ◌∙◌}
use Rattle.toml.specs.Data.{Members}
use Rattle.ml_style.specs.Toml.{ReadsToml}
use Rattle.ml_style.specs.Faults.{Answers}
use Rattle.ml_style.specs.Fonts.{font_faults, AreFonts, names_of, keys}
use Rattle.ml_style.specs.StyleTable.{version_in, fonts_in, classes_faults_in, faults_of, style_faults, IsStyleIn}
use Rattle.ml_style.specs.Answer.{IsAnswer}
use Rattle.ml_style.specs.declared.style.Style.{Style}
use Rattle.ml_style.specs.declared.fonts.NamedFont.{NamedFont}
use Rattle.ml_style.specs.declared.fault.StyleFault.{StyleFault}
use Rattle.ml_style.specs.declared.fault.StyleFault.TheVariants.{NotToml, Version, BadFont, BadClass, UnknownFont, EmptyRange, Memory}
use Rattle.ml_style.proofs.FontLemmas.{names-keys}

-- of a style of this version with its fonts only the classes can be at fault
pub after_fonts : (t : Members) (version : ℕ) (fonts : List NamedFont) → version_in t ≡ Some version → font_faults (fonts_in t) ≡ [] → AreFonts (fonts_in t) fonts
    → style_faults t ≡ classes_faults_in version (names_of fonts) t
after_fonts t version fonts v f a =
    ap (λ (o : Option ℕ). faults_of o t) v
    ∙ ap (λ (x : List StyleFault). x ++ classes_faults_in version (keys (fonts_in t)) t) f
    ∙ ap (λ (names : List (List ℕ)). classes_faults_in version names t) (sym (names-keys (fonts_in t) fonts a))

-- what an answer about a table says of the bytes that it was read from
pub answered : (bytes : List ℕ) (t : Members) (r : Result Style StyleFault) → ReadsToml bytes t → Answers r (style_faults t) (IsStyleIn t) → IsAnswer bytes r
answered bytes t (Ok style) reads h = (t, reads, h.0, h.1)
answered bytes t (Err NotToml) reads h = absurd h
answered bytes t (Err Version) reads h = (t, reads, h)
answered bytes t (Err (BadFont name)) reads h = (t, reads, h)
answered bytes t (Err (BadClass k field)) reads h = (t, reads, h)
answered bytes t (Err (UnknownFont k)) reads h = (t, reads, h)
answered bytes t (Err (EmptyRange k)) reads h = (t, reads, h)
answered bytes t (Err Memory) reads h = tt
