-- Why words are refused.
use Rattle.std.specs.Prelude.{⊤}
use Rattle.std.proofs.Common.{◌≡◌, ◌≢◌, sym, ap, subst, List, [], ◌∷◌, Option, Some, Result, Ok, Err, IfOk, IfErr, inl, inr, arith}
use Rattle.clap.specs.Words.{App, Row, Text, fault_of, kind_of, subcommand_of}
use Rattle.clap.specs.Kinds.{HasKind, IsAmong, Kinds}
use Rattle.clap.specs.declared.error.Error.{Error}
use Rattle.clap.specs.declared.error.kind.ErrorKind.{ErrorKind}
use Rattle.clap.specs.declared.error.kind.ErrorKind.TheVariants.{DisplayHelp, DisplayVersion, OutOfMemory}
use Rattle.command_line.specs.declared.no_run.NoRun.{NoRun}
use Rattle.command_line.specs.declared.no_run.NoRun.TheVariants as no
use Rattle.command_line.specs.declared.word.Word.{Word}
use Rattle.command_line.specs.Reading.{AreRefused, AskForSome, HoldsIn, MatchesRows, IsMistake, IsNotEntered, IsRead, IsRefusalOf, IsNoRunFor, IsUsage}
use Rattle.command_line.specs.Tool.{app_of_word, tool}

not_one : (kind : ErrorKind) (kinds : Kinds) → kinds ≡ [] → kinds ≢ kind ∷ []
not_one kind kinds none some = absurd (cc)

-- clap has found nothing wrong
mistake : (word : App) (words : List Text) (P : List Row → Type 0) → fault_of (tool word) words ≡ []
    → ¬ (HoldsIn word words P) → IsMistake word words P
mistake word words P taken not_held = record {
  no_help = not_one DisplayHelp (fault_of (tool word) words) taken;
  no_version = not_one DisplayVersion (fault_of (tool word) words) taken;
  not_held = not_held;
}

-- clap has found nothing wrong, and entered no word of the program
pub names_no_word : (word : App) (words : List Text) (e : NoRun) → IsUsage e → fault_of (tool word) words ≡ []
    → ((rows : List Row) → ¬ (MatchesRows word words rows)) → IsNotEntered word words e
names_no_word word words (no.Help _) usage taken none = absurd usage
names_no_word word words (no.Usage _) usage taken none =
    mistake word words (λ rows. ⊤) taken (λ held. none held.rows held.entered)
names_no_word word words no.Ring usage taken none = absurd usage
names_no_word word words no.Memory usage taken none = tt

alone : (kind only : ErrorKind) → IsAmong kind (only ∷ []) → kind ≢ only → ⊥
alone kind only (inl is) other = other is
alone kind only (inr none) other = none

no_memory : (kind : ErrorKind) → kind ≡ DisplayHelp → kind ≡ OutOfMemory → ⊥
no_memory kind help memory = grind arith

no_memory_either : (kind : ErrorKind) → kind ≡ DisplayVersion → kind ≡ OutOfMemory → ⊥
no_memory_either kind version memory = grind arith

-- clap has refused the words
pub refused_by_clap : (word : App) (words : List Text) (error : Error) (e : NoRun)
    → HasKind (fault_of (tool word) words) error → IsRefusalOf (kind_of error) e → IsNotEntered word words e
refused_by_clap word words error (no.Help _) (inl memory) (inl help) = absurd (no_memory (kind_of error) help memory)
refused_by_clap word words error (no.Help _) (inl memory) (inr version) =
    absurd (no_memory_either (kind_of error) version memory)
refused_by_clap word words error (no.Help _) (inr among) (inl help) =
    inl (subst (λ (kind : ErrorKind). IsAmong kind (fault_of (tool word) words)) help among)
refused_by_clap word words error (no.Help _) (inr among) (inr version) =
    inr (subst (λ (kind : ErrorKind). IsAmong kind (fault_of (tool word) words)) version among)
refused_by_clap word words error (no.Usage _) (inl memory) usage = absurd (usage.0 memory)
refused_by_clap word words error (no.Usage _) (inr among) usage =
    let among_in : (kinds : Kinds) → fault_of (tool word) words ≡ kinds → IsAmong (kind_of error) kinds =
    λ kinds is. subst (λ (others : Kinds). IsAmong (kind_of error) others) is among in
    record {
      no_help = λ is. alone (kind_of error) DisplayHelp (among_in (DisplayHelp ∷ []) is) usage.1.0;
      no_version = λ is. alone (kind_of error) DisplayVersion (among_in (DisplayVersion ∷ []) is) usage.1.1;
      not_held = λ held. among_in [] held.entered.taken;
    }
refused_by_clap word words error no.Ring has usage = absurd usage
refused_by_clap word words error no.Memory has usage = tt

-- words without rows are refused whatever is asked of the rows
pub refused_unread : {Q : Type 0} (word : App) (words : List Text) (Asks : List Row → Q → Type 0) (IsOdd : Q → Type 0) (e : NoRun)
    → IsNotEntered word words e → IsNoRunFor word words Asks IsOdd e
refused_unread word words Asks IsOdd (no.Help _) is = is
refused_unread word words Asks IsOdd (no.Usage _) is = record {
  no_help = is.no_help;
  no_version = is.no_version;
  not_held = λ held. is.not_held (record { rows = held.rows; entered = held.entered; holds = tt });
}
refused_unread word words Asks IsOdd no.Ring is = absurd is
refused_unread word words Asks IsOdd no.Memory is = tt

same_second : {X Y : Type 0} (o : Option (X × Y)) (x : X) (y z : Y) → o ≡ Some (x, y)
    → o ≡ Some (x, z) → z ≡ y
same_second {X} {Y} o x y z one two =
    let pair : ◌≡◌ {A = X × Y} (x, y) (x, z) = cc in
    sym (ap (λ (p : X × Y). p.1) pair)

refused_read : {Q : Type 0} (word : App) (words : List Text) (rows : List Row) (Asks : List Row → Q → Type 0) (IsOdd : Q → Type 0) (e : NoRun)
    → MatchesRows word words rows → AreRefused rows Asks IsOdd e → IsNoRunFor word words Asks IsOdd e
refused_read word words rows Asks IsOdd (no.Help _) entered refused = absurd refused
refused_read word words rows Asks IsOdd (no.Usage _) entered refused = mistake word words (AskForSome Asks) entered.taken (λ held.
    let same : held.rows ≡ rows = same_second (subcommand_of (tool word) words) word.top.name rows held.rows entered.matches held.entered.matches in
    refused (subst (AskForSome Asks) same held.holds))
refused_read word words rows Asks IsOdd no.Ring entered refused = record { rows = rows; entered = entered; holds = refused }
refused_read word words rows Asks IsOdd no.Memory entered refused = tt

-- words whose rows were read
pub is_read : {Q : Type 0} (word : Word) (words : List Text) (rows : List Row) (Asks : List Row → Q → Type 0) (IsOdd : Q → Type 0)
    (read : Result Q NoRun) → MatchesRows (app_of_word word) words rows → IfOk read (Asks rows) → IfErr read (AreRefused rows Asks IsOdd)
    → IsRead word words Asks IsOdd read
is_read word words rows Asks IsOdd (Ok request) entered ok err = record { rows = rows; entered = entered; holds = ok }
is_read word words rows Asks IsOdd (Err e) entered ok err = refused_read (app_of_word word) words rows Asks IsOdd e entered err
