-- What the words of a program ask for, and why they are refused: in general, for the program of any word.
use Rattle.std.specs.Prelude.{◌≡◌, ◌≢◌, ◌⊎◌, ⊤, List, [], ◌∷◌, Some, Result, Ok, Err}
use Rattle.clap.specs.Words.{App, Row, Text, subcommand_of, fault_of}
use Rattle.clap.specs.Kinds.{IsAmong}
use Rattle.clap.specs.declared.error.kind.ErrorKind.{ErrorKind}
use Rattle.clap.specs.declared.error.kind.ErrorKind.TheVariants.{DisplayHelp, DisplayVersion, OutOfMemory}
use Rattle.command_line.specs.declared.no_run.NoRun.{NoRun}
use Rattle.command_line.specs.declared.no_run.NoRun.TheVariants as no
use Rattle.command_line.specs.declared.word.Word.{Word}
use Rattle.command_line.specs.Tool.{app_of_word, tool}

-- clap finds no fault in the words of the program, and its exact matches of the program's word have these rows
pub record MatchesRows (word : App) (words : List Text) (rows : List Row) : Type 0 where
  pub taken : fault_of (tool word) words ≡ []
  pub matches : subcommand_of (tool word) words ≡ Some (word.top.name, rows)

-- P holds of the rows that the words enter
pub record HoldsIn (word : App) (words : List Text) (P : List Row → Type 0) : Type 0 where
  pub rows : List Row
  pub entered : MatchesRows word words rows
  pub holds : P rows

-- neither help nor the version was asked for, and no rows of the word hold P
pub record IsMistake (word : App) (words : List Text) (P : List Row → Type 0) : Type 0 where
  pub no_help : fault_of (tool word) words ≢ DisplayHelp ∷ []
  pub no_version : fault_of (tool word) words ≢ DisplayVersion ∷ []
  pub not_held : ¬ (HoldsIn word words P)

-- help or the version was asked for
abbrev pub AsksForHelp : App → List Text → Type 0
AsksForHelp word words =
    IsAmong DisplayHelp (fault_of (tool word) words) ⊎ IsAmong DisplayVersion (fault_of (tool word) words)

-- the rows ask for something, by what each row asks for
abbrev pub AskForSome : {Q : Type 0} → (Asks : List Row → Q → Type 0) → List Row → Type 0
AskForSome {Q} Asks rows = (request : Q) × Asks rows request

-- the rows ask for something, of which the ring size alone is odd: one that no ring has
abbrev pub AskForOdd : {Q : Type 0} → (Asks : List Row → Q → Type 0) → (IsOdd : Q → Type 0) → List Row → Type 0
AskForOdd {Q} Asks IsOdd rows = (request : Q) × (Asks rows request × IsOdd request)

-- why rows are refused
abbrev pub AreRefused : {Q : Type 0} → List Row → (Asks : List Row → Q → Type 0) → (IsOdd : Q → Type 0) → NoRun → Type 0
AreRefused rows Asks IsOdd (no.Help _) = ⊥
AreRefused rows Asks IsOdd (no.Usage _) = ¬ (AskForSome Asks rows)
AreRefused rows Asks IsOdd no.Ring = AskForOdd Asks IsOdd rows
AreRefused rows Asks IsOdd no.Memory = ⊤

-- why words are refused
abbrev pub IsNoRunFor : {Q : Type 0} → App → List Text → (Asks : List Row → Q → Type 0) → (IsOdd : Q → Type 0) → NoRun → Type 0
IsNoRunFor word words Asks IsOdd (no.Help _) = AsksForHelp word words
IsNoRunFor word words Asks IsOdd (no.Usage _) = IsMistake word words (AskForSome Asks)
IsNoRunFor word words Asks IsOdd no.Ring = HoldsIn word words (AskForOdd Asks IsOdd)
IsNoRunFor word words Asks IsOdd no.Memory = ⊤

-- the words ask a program for this, or are refused
abbrev pub IsRead : {Q : Type 0} → Word → List Text → (Asks : List Row → Q → Type 0) → (IsOdd : Q → Type 0)
    → Result Q NoRun → Type 0
IsRead word words Asks IsOdd (Ok request) = HoldsIn (app_of_word word) words (λ rows. Asks rows request)
IsRead word words Asks IsOdd (Err no_run) = IsNoRunFor (app_of_word word) words Asks IsOdd no_run

-- why there are no rows
abbrev pub IsNotEntered : App → List Text → NoRun → Type 0
IsNotEntered word words (no.Help _) = AsksForHelp word words
IsNotEntered word words (no.Usage _) = IsMistake word words (λ rows. ⊤)
IsNotEntered word words no.Ring = ⊥
IsNotEntered word words no.Memory = ⊤

-- a mistake: what is wrong is said, or that no memory was left to say it
abbrev pub IsUsage : NoRun → Type 0
IsUsage (no.Help _) = ⊥
IsUsage (no.Usage _) = ⊤
IsUsage no.Ring = ⊥
IsUsage no.Memory = ⊤

-- what an error of clap's becomes
abbrev pub IsRefusalOf : ErrorKind → NoRun → Type 0
IsRefusalOf kind (no.Help _) = (kind ≡ DisplayHelp) ⊎ (kind ≡ DisplayVersion)
IsRefusalOf kind (no.Usage _) =
    (kind ≢ OutOfMemory) × ((kind ≢ DisplayHelp) × (kind ≢ DisplayVersion))
IsRefusalOf kind no.Ring = ⊥
IsRefusalOf kind no.Memory = ⊤
