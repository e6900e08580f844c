-- What words ask for, by the name of the command.
use Rattle.std.proofs.Common.{◌≡◌, ℕ, List, ◌∷◌, refl, sym, ◌∙◌, false}
use Rattle.std.specs.Prelude.{codes}
use Rattle.std.specs.Str.{bytes_eq}
use Rattle.std.proofs.lemmas.Bool.{false≢true}
use Rattle.std.proofs.lemmas.Slice.Eq.{bytes_eq-Decides}
use Rattle.ml_cone.specs.declared.view.View.{View}
use Rattle.ml_flight.specs.declared.window.Window.{Window}
use Rattle.ml_command.specs.Commands.{name_of, AreRest, Ask, IsForm}
use Rattle.ml_command.specs.Words.{AreViewWords, AreWindowWords}
use Rattle.ml_command.specs.declared.command.Command.{Command}
use Rattle.ml_command.specs.declared.command.Command.TheVariants.{OnTable, Check, OnMap, Live, Gen, Follow}
use Rattle.ml_command.specs.declared.command.TableTask.TheVariants.{Show, Slots, Gaps, GapView}
use Rattle.ml_command.specs.declared.command.MapTask.TheVariants.{ViewMap, Zoom}
use Rattle.ml_command.specs.declared.command.LiveTask.TheVariants.{Pipe, Serve}

-- what is asked has its first word and the words behind it
named : (name : List ℕ) (rest : List (List ℕ)) (command : Command) → Ask (name ∷ rest) command → (name_of command ≡ name) × AreRest command rest
named name rest command ask =
    let same = ask.are in
    let first : name_of command ≡ name = cc in
    let others : ask.rest ≡ rest = cc in
    (first, rw others at ask.takes)

-- texts that differ byte by byte are not the same
apart : (a b : List ℕ) → bytes_eq a b ≡ false → ¬ (a ≡ b)
apart a b differ same = false≢true (sym differ ∙ (bytes_eq-Decides a b).1 same)

-- words that write no view are no command that shows a table
pub no_show : (table : List ℕ) (words : List (List ℕ)) → ((view : View) → ¬ (AreViewWords words view)) → ¬ (IsForm (codes "show" ∷ table ∷ words))
no_show table words none form = reads form.0 (named (codes "show") (table ∷ words) form.0 form.1)
  where
    reads : (command : Command) → (name_of command ≡ codes "show") × AreRest command (table ∷ words) → ⊥
    reads (OnTable other (Show view)) is = (let same = is.1.1 in let one : is.1.0 ≡ words = cc in none view (rw one at is.1.2))
    reads (OnTable other Slots) is = apart (codes "slots") (codes "show") refl is.0
    reads (OnTable other Gaps) is = apart (codes "gaps") (codes "show") refl is.0
    reads (OnTable other (GapView view)) is = apart (codes "gapview") (codes "show") refl is.0
    reads (Check other slots) is = apart (codes "check") (codes "show") refl is.0
    reads (OnMap other another (ViewMap view)) is = apart (codes "view") (codes "show") refl is.0
    reads (OnMap other another (Zoom window)) is = apart (codes "zoom") (codes "show") refl is.0
    reads (Live other another Pipe) is = apart (codes "pipe") (codes "show") refl is.0
    reads (Live other another (Serve port count)) is = apart (codes "serve") (codes "show") refl is.0
    reads (Gen groups seed) is = apart (codes "gen") (codes "show") refl is.0
    reads (Follow other) is = apart (codes "follow") (codes "show") refl is.0

-- nor one that shows a table under its gaps
pub no_gap_view : (table : List ℕ) (words : List (List ℕ)) → ((view : View) → ¬ (AreViewWords words view)) → ¬ (IsForm (codes "gapview" ∷ table ∷ words))
no_gap_view table words none form = reads form.0 (named (codes "gapview") (table ∷ words) form.0 form.1)
  where
    reads : (command : Command) → (name_of command ≡ codes "gapview") × AreRest command (table ∷ words) → ⊥
    reads (OnTable other (Show view)) is = apart (codes "show") (codes "gapview") refl is.0
    reads (OnTable other Slots) is = apart (codes "slots") (codes "gapview") refl is.0
    reads (OnTable other Gaps) is = apart (codes "gaps") (codes "gapview") refl is.0
    reads (OnTable other (GapView view)) is = (let same = is.1.1 in let one : is.1.0 ≡ words = cc in none view (rw one at is.1.2))
    reads (Check other slots) is = apart (codes "check") (codes "gapview") refl is.0
    reads (OnMap other another (ViewMap view)) is = apart (codes "view") (codes "gapview") refl is.0
    reads (OnMap other another (Zoom window)) is = apart (codes "zoom") (codes "gapview") refl is.0
    reads (Live other another Pipe) is = apart (codes "pipe") (codes "gapview") refl is.0
    reads (Live other another (Serve port count)) is = apart (codes "serve") (codes "gapview") refl is.0
    reads (Gen groups seed) is = apart (codes "gen") (codes "gapview") refl is.0
    reads (Follow other) is = apart (codes "follow") (codes "gapview") refl is.0

-- nor one that shows a map
pub no_show_map : (style name : List ℕ) (words : List (List ℕ)) → ((view : View) → ¬ (AreViewWords words view)) → ¬ (IsForm (codes "view" ∷ style ∷ name ∷ words))
no_show_map style name words none form = reads form.0 (named (codes "view") (style ∷ name ∷ words) form.0 form.1)
  where
    reads : (command : Command) → (name_of command ≡ codes "view") × AreRest command (style ∷ name ∷ words) → ⊥
    reads (OnTable other (Show view)) is = apart (codes "show") (codes "view") refl is.0
    reads (OnTable other Slots) is = apart (codes "slots") (codes "view") refl is.0
    reads (OnTable other Gaps) is = apart (codes "gaps") (codes "view") refl is.0
    reads (OnTable other (GapView view)) is = apart (codes "gapview") (codes "view") refl is.0
    reads (Check other slots) is = apart (codes "check") (codes "view") refl is.0
    reads (OnMap other another (ViewMap view)) is = (let same = is.1.1 in let one : is.1.0 ≡ words = cc in none view (rw one at is.1.2))
    reads (OnMap other another (Zoom window)) is = apart (codes "zoom") (codes "view") refl is.0
    reads (Live other another Pipe) is = apart (codes "pipe") (codes "view") refl is.0
    reads (Live other another (Serve port count)) is = apart (codes "serve") (codes "view") refl is.0
    reads (Gen groups seed) is = apart (codes "gen") (codes "view") refl is.0
    reads (Follow other) is = apart (codes "follow") (codes "view") refl is.0

-- words that write no window are no command that tells a zoom timeline
pub no_zoom : (style name : List ℕ) (words : List (List ℕ)) → ((window : Window) → ¬ (AreWindowWords words window)) → ¬ (IsForm (codes "zoom" ∷ style ∷ name ∷ words))
no_zoom style name words none form = reads form.0 (named (codes "zoom") (style ∷ name ∷ words) form.0 form.1)
  where
    reads : (command : Command) → (name_of command ≡ codes "zoom") × AreRest command (style ∷ name ∷ words) → ⊥
    reads (OnTable other (Show view)) is = apart (codes "show") (codes "zoom") refl is.0
    reads (OnTable other Slots) is = apart (codes "slots") (codes "zoom") refl is.0
    reads (OnTable other Gaps) is = apart (codes "gaps") (codes "zoom") refl is.0
    reads (OnTable other (GapView view)) is = apart (codes "gapview") (codes "zoom") refl is.0
    reads (Check other slots) is = apart (codes "check") (codes "zoom") refl is.0
    reads (OnMap other another (ViewMap view)) is = apart (codes "view") (codes "zoom") refl is.0
    reads (OnMap other another (Zoom window)) is = (let same = is.1.1 in let one : is.1.0 ≡ words = cc in none window (rw one at is.1.2))
    reads (Live other another Pipe) is = apart (codes "pipe") (codes "zoom") refl is.0
    reads (Live other another (Serve port count)) is = apart (codes "serve") (codes "zoom") refl is.0
    reads (Gen groups seed) is = apart (codes "gen") (codes "zoom") refl is.0
    reads (Follow other) is = apart (codes "follow") (codes "zoom") refl is.0
