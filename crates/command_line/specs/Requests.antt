-- What the words of each program ask for: what the text of each option stands for, or its default without one.
use Rattle.std.specs.Prelude.{◌≡◌, ◌≤◌, ◌^◌, ◌-◌, min, ⊤, ℕ, Bool, true, false, List, Option, Some, None, codes}
use Rattle.std.specs.Str.{bytes_eq}
use Rattle.clap.specs.Words.{Row, Text, first_of}
use Rattle.instructions.specs.Settings.{Settings, is_ring}
use Rattle.command_line.specs.declared.logged.Logged.{Logged}
use Rattle.command_line.specs.declared.request.Asked.{Asked}
use Rattle.command_line.specs.declared.request.ByHand.{ByHand}
use Rattle.command_line.specs.declared.request.Charted.{Charted}
use Rattle.command_line.specs.declared.request.Checked.{Checked}
use Rattle.command_line.specs.declared.request.RunRequest.{RunRequest}
use Rattle.command_line.specs.Values.{IsNumberFrom, IsPredictor, IsQueueCut, IsSeed, greatest, is_true, text_behind}

-- the ring size, the queue size and the limit of a configuration with one snapshot place and the first tag 1; the ring
-- size is any number here
pub record AreSizes (rows : List Row) (config : Settings) : Type 0 where
  pub ring : IsNumberFrom 0 (2 ^ 64 - 1) 16 (first_of (codes "ruu-size") rows) config.ring
  pub queue : IsQueueCut (first_of (codes "lsq-size") rows) config.ring config.queue
  pub limit : IsNumberFrom 0 greatest 1000000 (first_of (codes "limit") rows) config.limit
  pub one_place : config.places ≡ 1
  pub first_tag : config.first_tag ≡ 1

-- a queue size that may be cut, units, a limit and turns are in their ranges
pub record AreInRange (queue units limit turns : ℕ) : Type 0 where
  pub some_queue : 2 ≤ queue
  pub some_units : 1 ≤ units
  pub few_units : units ≤ 64
  pub limited : limit ≤ greatest
  pub some_turns : 1 ≤ turns
  pub few_turns : turns ≤ greatest

-- the configuration of a run: one snapshot place, the first tag 1, and the queue size cut to the ring size
abbrev pub run_settings : (ring queue units limit turns : ℕ) → Settings
run_settings ring queue units limit turns = record {
  ring = ring;
  queue = min queue ring;
  units = units;
  places = 1;
  first_tag = 1;
  limit = limit;
  turns = turns;
}

-- no ring has this size
abbrev pub HasOddRing : Settings → Type 0
HasOddRing config = is_ring config.ring ≡ false

-- no ring size is odd: each one that is wrong is a mistake
abbrev pub NeverOdd : {Q : Type 0} → Q → Type 0
NeverOdd request = ⊥

-- a seed chooses turns on one thread alone, and holds units back on several alone
abbrev pub IsOrder : (alone : Bool) → (turns shake : Option ℕ) → Type 0
IsOrder true turns shake = shake ≡ None
IsOrder false turns shake = turns ≡ None

-- the seeds of a run stand where they count
pub record AreSeeds (rows : List Row) (turns shake : Option ℕ) : Type 0 where
  pub turns_are : IsSeed (first_of (codes "seed") rows) turns
  pub shake_is : IsSeed (first_of (codes "shake") rows) shake
  pub order : IsOrder (is_true (first_of (codes "alone") rows)) turns shake

-- `ruu run`
pub record IsAskedBy (rows : List Row) (asked : Asked) : Type 0 where
  pub file : first_of (codes "FILE") rows ≡ Some asked.file.now
  pub sizes : AreSizes rows asked.config
  pub units : IsNumberFrom 1 64 2 (first_of (codes "units") rows) asked.config.units
  pub predictor : IsPredictor (first_of (codes "bpred") rows) asked.predictor
  pub turns : IsNumberFrom 1 greatest greatest (first_of (codes "turns") rows) asked.config.turns
  pub alone : asked.alone ≡ is_true (first_of (codes "alone") rows)
  pub progress : asked.progress ≡ is_true (first_of (codes "progress") rows)
  pub seeds : AreSeeds rows asked.seed asked.shake

-- the run of `ruu chart`
pub record IsRunRequestBy (rows : List Row) (run : RunRequest) : Type 0 where
  pub file : first_of (codes "FILE") rows ≡ Some run.file.now
  pub sizes : AreSizes rows run.config
  pub units : run.config.units ≡ 2
  pub predictor : IsPredictor (first_of (codes "bpred") rows) run.predictor
  pub turns : run.config.turns ≡ greatest
  pub seed : IsSeed (first_of (codes "seed") rows) run.seed

-- the log goes to a file, which is not that of the listing
abbrev pub IsLogFile : (file log : Option Text) → Type 0
IsLogFile file None = ⊤
IsLogFile None (Some log) = ⊥
IsLogFile (Some file) (Some log) = (bytes_eq log file ≡ false) × (bytes_eq log (codes "-") ≡ false)

-- `ruu chart`
pub record IsChartedBy (rows : List Row) (charted : Charted) : Type 0 where
  pub run : IsRunRequestBy rows charted.run
  pub log : text_behind charted.log ≡ first_of (codes "trace") rows
  pub log_file : IsLogFile (first_of (codes "FILE") rows) (first_of (codes "trace") rows)
  pub count : IsNumberFrom 0 greatest 1000 (first_of (codes "rows") rows) charted.rows
  pub by_leave : charted.by_leave ≡ is_true (first_of (codes "by-leave") rows)

-- `ruu commits`
pub record IsLoggedBy (rows : List Row) (log : Logged) : Type 0 where
  pub file : first_of (codes "FILE") rows ≡ Some log.file.now
  pub limit : IsNumberFrom 0 greatest 1000000 (first_of (codes "limit") rows) log.limit
  pub from : IsNumberFrom 1 greatest 1 (first_of (codes "from") rows) log.from
  pub hash : IsNumberFrom 0 greatest 0 (first_of (codes "hash") rows) log.hash
  pub text : log.text ≡ is_true (first_of (codes "text") rows)

-- `ruu check`
pub record IsCheckedBy (rows : List Row) (checked : Checked) : Type 0 where
  pub file : first_of (codes "FILE") rows ≡ Some checked.file.now
  pub all : checked.all ≡ is_true (first_of (codes "all") rows)

-- a number of commands is given with a seed alone
abbrev pub IsCounted : (seed : Option ℕ) → (steps : Option Text) → Type 0
IsCounted (Some seed) steps = ⊤
IsCounted None steps = steps ≡ None

-- the commands that a seed chooses, and how many
pub record AreSteps (rows : List Row) (seed : Option ℕ) (count : ℕ) : Type 0 where
  pub seed_is : IsSeed (first_of (codes "shuffle") rows) seed
  pub count_is : IsNumberFrom 1 1000000 400 (first_of (codes "steps") rows) count
  pub counted : IsCounted seed (first_of (codes "steps") rows)

-- `ruu drive`: as many units as can be driven, and else what a run has that is asked for nothing more
pub record IsDrivenBy (rows : List Row) (hand : ByHand) : Type 0 where
  pub file : first_of (codes "FILE") rows ≡ Some hand.file.now
  pub no_input : bytes_eq hand.file.now (codes "-") ≡ false
  pub ring : IsNumberFrom 2 32 16 (first_of (codes "ruu-size") rows) hand.config.ring
  pub ring_is_one : is_ring hand.config.ring ≡ true
  pub queue : IsQueueCut (first_of (codes "lsq-size") rows) hand.config.ring hand.config.queue
  pub predictor : IsPredictor (first_of (codes "bpred") rows) hand.predictor
  pub first_tag : IsNumberFrom 1 (2 ^ 28 - 2) 1 (first_of (codes "first-tag") rows) hand.config.first_tag
  pub units : hand.config.units ≡ 64
  pub one_place : hand.config.places ≡ 1
  pub limit : hand.config.limit ≡ 1000000
  pub turns : hand.config.turns ≡ greatest
  pub quiet_prompt : hand.quiet_prompt ≡ is_true (first_of (codes "quiet-prompt") rows)
  pub echo : hand.echo ≡ is_true (first_of (codes "echo") rows)
  pub steps : AreSteps rows hand.seed hand.steps
