-- What the text of an option stands for.
use Rattle.std.specs.Prelude.{◌≡◌, ◌≤◌, ◌^◌, ◌-◌, ℕ, Bool, false, List, Option, Some, None, codes, min}
use Rattle.std.specs.Prelude.{option_map}
use Rattle.std.specs.Borrow.{Bor}
use Rattle.std.specs.Str.Parse.{IsNumeral, digits_value, without_leading_plus}
use Rattle.std.specs.Str.{bytes_eq}
use Rattle.clap.specs.Words.{Row, Text, found_of, rows_of}
use Rattle.command_line.specs.declared.entries.Entries.{Entries}
use Rattle.command_line.specs.declared.request.BranchPredictor.{BranchPredictor}
use Rattle.command_line.specs.declared.request.BranchPredictor.TheVariants.{NotTaken, Taken, Bimod}

-- the text after a reference
abbrev pub text_behind : Option (Bor Text) → Option Text
text_behind = option_map (λ text. text.now)

-- the rows of the entries
abbrev pub rows_in : Entries → List Row
rows_in entries = rows_of (found_of entries.matches)

-- the greatest limit and number of turns
abbrev pub greatest : ℕ
greatest = 2 ^ 32 - 1

-- n is what the text's decimal digits write, and the default without a text
abbrev pub IsNumber : ℕ → Option Text → ℕ → Type 0
IsNumber default None n = n ≡ default
IsNumber default (Some text) n =
    IsNumeral 10 (without_leading_plus text) × (n ≡ digits_value 10 (without_leading_plus text))

-- n is what the text writes, or the default, and is in the range of its option
pub record IsNumberFrom (least most default : ℕ) (text : Option Text) (n : ℕ) : Type 0 where
  pub reads : IsNumber default text n
  pub above : least ≤ n
  pub below : n ≤ most

-- the text stands for no number in the range
abbrev pub IsNoNumberFrom : (least most default : ℕ) → Option Text → Type 0
IsNoNumberFrom least most default text = (n : ℕ) → ¬ (IsNumberFrom least most default text n)

-- the seed of the text, and none without a text
abbrev pub IsSeed : Option Text → Option ℕ → Type 0
IsSeed None seed = seed ≡ None
IsSeed (Some text) None = ⊥
IsSeed (Some text) (Some seed) = IsNumberFrom 0 (2 ^ 64 - 1) 0 (Some text) seed

-- the text stands for no seed
abbrev pub IsNoSeed : Option Text → Type 0
IsNoSeed text = (seed : Option ℕ) → ¬ (IsSeed text seed)

-- the queue size of the text, cut to the ring size
pub record IsQueueCut (text : Option Text) (ring queue : ℕ) : Type 0 where
  pub wanted : ℕ
  pub reads : IsNumberFrom 2 32 8 text wanted
  pub cut : queue ≡ min wanted ring

-- the word of a predictor
abbrev pub predictor_word : BranchPredictor → Text
predictor_word NotTaken = codes "nottaken"
predictor_word Taken = codes "taken"
predictor_word Bimod = codes "bimod"

-- the text is the predictor's word, or there is none and it is the default
abbrev pub IsPredictor : Option Text → BranchPredictor → Type 0
IsPredictor None predictor = predictor ≡ Bimod
IsPredictor (Some text) predictor = text ≡ predictor_word predictor

-- the text is no predictor's word
abbrev pub IsNoPredictor : Option Text → Type 0
IsNoPredictor text = (predictor : BranchPredictor) → ¬ (IsPredictor text predictor)

-- the flag was given
abbrev pub is_true : Option Text → Bool
is_true None = false
is_true (Some text) = bytes_eq text (codes "true")
