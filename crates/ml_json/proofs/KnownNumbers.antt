-- Whether a text is that of a number can be told, so a text that is known to be one is cut as one.
use Rattle.std.proofs.Common.{◌≡◌, ℕ, List, [], Bool, true, false, Option, Some, None, refl, sym, ap, ◌∙◌, append-nil}
use Rattle.std.specs.Str.{bytes_eq}
use Rattle.std.proofs.Math.Bool.{Bool-set}
use Rattle.std.proofs.Math.Logic.{∥∥₁_elim}
use Rattle.std.proofs.lemmas.Slice.Eq.{bytes_eq-Decides}
use Rattle.ml_ratio.specs.JsonNumber.{IsNumber}
use Rattle.ml_json.specs.Tree.{Tree, null, flag, num, str, list, map}
use Rattle.ml_json.specs.Grammar.{no_blank, Value, a_number, Document, document, Reads, unmarked, marked}
use Rattle.ml_json.specs.Machine as m
use Rattle.ml_json.proofs.Runs.{run}
use Rattle.ml_json.proofs.RunsRead.{runs_reads}
use Rattle.ml_json.proofs.ValueRuns.{reads_runs}

-- whether the tree is the number of this text
abbrev says : List ℕ → Option Tree → Bool
says t (Some (num s)) = bytes_eq s t
says t other = false

said : (t : List ℕ) (tree : Option Tree) → says t tree ≡ true → tree ≡ Some (num t)
said t (Some (num s)) h = ap (λ (x : List ℕ). Some (num x)) ((bytes_eq-Decides s t).0 h)
said t None h = absurd (let f : false ≡ true = h in cc)
said t (Some null) h = absurd (let f : false ≡ true = h in cc)
said t (Some (flag b)) h = absurd (let f : false ≡ true = h in cc)
said t (Some (str s)) h = absurd (let f : false ≡ true = h in cc)
said t (Some (list ts)) h = absurd (let f : false ≡ true = h in cc)
said t (Some (map ps)) h = absurd (let f : false ≡ true = h in cc)

number_reads : (t : List ℕ) → IsNumber t → Reads t (num t)
number_reads t h = unmarked (document no_blank (a_number h (sym (append-nil t))) no_blank)

number_says : (t : List ℕ) → IsNumber t → says t (run t m.begin []) ≡ true
number_says t h = ap (says t) (reads_runs (number_reads t h)) ∙ (bytes_eq-Decides t t).1 refl

in_value : {t x r : List ℕ} → Value (num t) x r → IsNumber t
in_value (a_number h e) = h

in_document : {t s : List ℕ} → Document (num t) s → IsNumber t
in_document (document b v c) = in_value v

in_reads : {t s : List ℕ} → Reads s (num t) → IsNumber t
in_reads (unmarked d) = in_document d
in_reads (marked d) = in_document d

-- a text that is known to be a number's is one
pub number_known : (t : List ℕ) → ∥ IsNumber t ∥₁ → IsNumber t
number_known t h = in_reads (runs_reads t (num t) (said t (run t m.begin []) (∥∥₁_elim h (Bool-set _ _) (number_says t))))
