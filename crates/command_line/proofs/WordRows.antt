-- Which word the words of a program enter, and with what matches.
use Rattle.std.proofs.Common.{◌≡◌, ◌∙◌, sym, ap, ap₂, refl, subst, List, Option, Some, None, Bool, true, false, not, ◌&&◌}
use Rattle.std.proofs.Common.{option_map}
use Rattle.std.proofs.lemmas.Bool.{false≢true}
use Rattle.std.proofs.lemmas.Option.{none-some}
use Rattle.std.proofs.lemmas.Slice.Eq.{bytes_eq-Decides}
use Rattle.std.specs.Str.{bytes_eq}
use Rattle.clap.specs.Words.{App, HasMatchesOf, Row, Text, is_simple_and_free, subcommand_of, subcommand_rows_of}
use Rattle.clap.specs.Words.{subcommand_name_of}
use Rattle.clap.specs.declared.parser.matches.ArgMatches.{ArgMatches}
use Rattle.clap.specs.declared.parser.matches.ArgMatches.TheViews.{out-ArgMatches}

both : {X Y : Type 0} (o : Option (X × Y)) (x : X) (y : Y)
    → option_map (λ p. p.0) o ≡ Some x → option_map (λ p. p.1) o ≡ Some y → o ≡ Some (x, y)
both None x y first second = absurd (none-some x first)
both (Some p) x y first second =
    let one : p.0 ≡ x = cc in
    let two : p.1 ≡ y = cc in
    ap₂ (λ a b. Some (a, b)) one two

first_of_two : {X Y Z : Type 0} (f : X → Y) (g : X → Z) (o : Option X)
    → option_map (λ (p : Y × Z). p.0) (option_map (λ x. (f x, g x)) o) ≡ option_map f o
first_of_two f g None = refl
first_of_two f g (Some x) = refl

first_true : (a b : Bool) → (a && b) ≡ true → a ≡ true
first_true true b is = refl
first_true false b is = absurd (false≢true is)

-- what clap says of a simple command holds of an equal one
pub at_tool : (P : App → Type 0) (app tool : App) → app ≡ tool → is_simple_and_free tool ≡ true
    → (is_simple_and_free app ≡ true → P app) → P tool
at_tool P app tool is simple says = subst P is (says (ap is_simple_and_free is ∙ simple))

-- the name and the rows of the subcommand that clap has entered
pub has_entered : (app tool : App) (words : List Text) (m : ArgMatches) (name : Text) (rows : List Row)
    → app ≡ tool → is_simple_and_free tool ≡ true
    → HasMatchesOf app words m → subcommand_name_of m ≡ Some name
    → option_map (λ p. p.1) (subcommand_rows_of m) ≡ Some rows
    → subcommand_of tool words ≡ Some (name, rows)
has_entered app tool words m name rows is simple has named held =
    let same : subcommand_rows_of m ≡ subcommand_of tool words =
    (has (first_true _ _ (ap is_simple_and_free is ∙ simple))).1 ∙ ap (λ (a : App). subcommand_of a words) is in
    sym same ∙ both (subcommand_rows_of m) name rows
    (first_of_two _ _ (out-ArgMatches m).subcommand ∙ named) held

-- clap has entered a subcommand of the name that the words enter
pub enters_name : (app tool : App) (words : List Text) (m : ArgMatches) (name : Text) (rows : List Row)
    → app ≡ tool → is_simple_and_free tool ≡ true
    → HasMatchesOf app words m → subcommand_of tool words ≡ Some (name, rows) → subcommand_name_of m ≡ Some name
enters_name app tool words m name rows is simple has entered =
    let same : subcommand_rows_of m ≡ subcommand_of tool words =
    (has (first_true _ _ (ap is_simple_and_free is ∙ simple))).1 ∙ ap (λ (a : App). subcommand_of a words) is in
    sym (first_of_two _ _ (out-ArgMatches m).subcommand)
    ∙ ap (option_map (λ (p : Text × List Row). p.0)) (same ∙ entered)

pub same_text : {x y : Text} → Some x ≡ Some y → x ≡ y
same_text is = cc

-- a name that does not differ, and one that does
not_false : (b : Bool) → not b ≡ false → b ≡ true
not_false true is = refl
not_false false is = absurd (false≢true (sym is))

pub is_named : (found name : Text) (differs : Bool) → differs ≡ not (bytes_eq found name) → differs ≡ false → found ≡ name
is_named found name differs is same = (bytes_eq-Decides found name).0 (not_false (bytes_eq found name) (sym is ∙ same))

pub is_not_named : (found name : Text) (differs : Bool) → differs ≡ not (bytes_eq found name) → differs ≡ true → found ≡ name → ⊥
is_not_named found name differs is other same =
    false≢true (sym (ap not ((bytes_eq-Decides found name).1 same)) ∙ sym is ∙ other)
