-- Maps that are generated, edited and counted.
use Rattle.std.specs.Prelude.{◌≡◌, ℕ, List, codes}
use Rattle.ml_gen.specs.Totals.{AreTotals, totals_text}
use Rattle.ml_gen.specs.declared.totals.Totals.{Totals}
use Rattle.ml_style.specs.Answer as style_answer
use Rattle.ml_style.specs.StyleTable.{IsStyle}
use Rattle.ml_style.specs.declared.fault.StyleFault.{StyleFault}
use Rattle.ml_style.specs.declared.style.Style.{Style}
use Rattle.ml_command.specs.MapInputs.{IsStyleLine}
use Rattle.ml_command.specs.declared.stop.Stop.{Stop}
use Rattle.ml_command.specs.declared.stop.Stop.TheVariants as stop

-- the style that generated maps are loaded under
abbrev pub sample_style : List ℕ
sample_style = codes
    "version = 1\nname = \"name\"\nrank = \"pop\"\n\n[fonts.sans]\nunits = 1000\ndefault = 500\nadvances = { \"i\" = 250, \"\\u0301\" = 0 }\n\n[[class]]\ngeometry = \"point\"\nkey = \"place\"\nvalue = \"city\"\nfont = \"sans\"\nsize = 20\npriority = 1\nmin = \"0\"\nmax = \"1000\"\n\n[[class]]\ngeometry = \"point\"\nfont = \"sans\"\nsize = 20\npriority = 2\nmin = \"0\"\nmax = \"1000\"\n\n[[class]]\ngeometry = \"line\"\nfont = \"sans\"\nsize = 20\npriority = 3\nref = 1000\nmin = \"0\"\nmax = \"2000\"\n\n[[class]]\ngeometry = \"area\"\nfont = \"sans\"\nsize = 20\npriority = 4\nmin = \"0\"\nmax = \"100000\"\n"

-- the line of the totals of a map of so many groups, which was generated of this seed, loaded under the style and edited
abbrev pub IsTotalsLine : ℕ → ℕ → Style → List ℕ → Type 0
IsTotalsLine groups seed style text = (totals : Totals) × AreTotals groups seed style totals × (text ≡ totals_text totals)

-- the same under the sample style
abbrev pub IsTotalsOf : ℕ → ℕ → List ℕ → Type 0
IsTotalsOf groups seed text = (style : Style) × IsStyle sample_style style × IsTotalsLine groups seed style text

-- the line refuses the sample style
abbrev pub IsSampleRefused : List ℕ → Type 0
IsSampleRefused line = (fault : StyleFault) × style_answer.IsRefusal sample_style fault × IsStyleLine fault line

-- why there is no map: its style is refused, or memory was wanting
abbrev pub IsGenStop : Stop → Type 0
IsGenStop (stop.StyleRefused line) = IsSampleRefused line
IsGenStop (stop.InputRefused line) = ⊥
IsGenStop stop.FileFault = ⊥
IsGenStop stop.TooLong = ⊥
IsGenStop stop.Memory = Unit {0}
