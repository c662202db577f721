-- What was true once in a call, and refusals.
use Rattle.std.proofs.Common.{◌≡◌, ◌≢◌, ℕ, ◌<◌, true, List, Some, None, sym, ap, ◌∙◌, arith}
use Rattle.std.proofs.lemmas.Option.{same_Some}
use Rattle.instructions.specs.Instruction.{is_access, kind}
use Rattle.instructions.specs.Programs.{Program, address, instr_at, instr_of}
use Rattle.instructions.specs.declared.instr.Instr.{Instr}
use Rattle.inorder.specs.declared.history.Entry.{Entry}
use Rattle.inorder.specs.declared.history.Event.{Event}
use Rattle.inorder.specs.History.{IsLegal, front, unit_of}
use Rattle.inorder.specs.OneHistory.{Adds}
use Rattle.inorder.specs.Replies.{HasNoInstr, IsFull, HasFullQueue, IsSpent, last_tag}
use Rattle.inorder.specs.Unit.{Sizes, UpdateUnit, next_station, recent}
use Rattle.inorder.proofs.Basics.{fetched_at}
use Rattle.instructions.proofs.Histories.{starts_same}
use Rattle.ruu_words.specs.declared.station.StationState.{StationState}
use Rattle.ruu_words.specs.declared.station.StationState.TheVariants.{Free}
use Rattle.station.specs.declared.answers.Seen.{Seen}
use Rattle.station.specs.Looking.{SeesStation}
use Rattle.station.specs.Moments.{WasOnce}
use Rattle.front.specs.declared.path.base_state.Base.{Base}
use Rattle.front.specs.declared.path.record.Record.{Record}
use Rattle.front.specs.Knows.{IsFolded, FrontKnows}
use Rattle.front.specs.Path.{pc_behind, rested_at}
use Rattle.front.specs.Queues.{QueueSays, how_many_accesses}
use Rattle.front.proofs.Looks.{live_there, NamedNow}
use Rattle.front.proofs.Places.{known_pc}
use Rattle.front.proofs.Stations.{is_full, live_room, next_tag_is, not_full}
use Rattle.inorder.proofs.OneCaller.Creators.{found_at}

module _ (P : Program) (C : Sizes) where
  pub at_end : (Fact : UpdateUnit → Type 0) (old new : List Entry) (es : List Event) → Adds P C front old new es → Fact (unit_of P C new) → WasOnce P C old new Fact
  at_end Fact old new es a f = record { point = new; within = record { before_return = starts_same new; behind_call = a.begins }; fact = f }

  pub before_end : (Fact : UpdateUnit → Type 0) (old mid new : List Entry) (es fs : List Event) →
      Adds P C front old mid es → Adds P C front mid new fs → Fact (unit_of P C mid) →
      WasOnce P C old new Fact
  before_end Fact old mid new es fs a b f = record { point = mid; within = record { before_return = b.begins; behind_call = a.begins }; fact = f }

  -- the first look
  module _ (h : List Entry) (legal : IsLegal P C h) (seen : Seen StationState) (sees : SeesStation P C h (next_station C (recent (unit_of P C h))) seen) where
    abbrev U : UpdateUnit
    U = unit_of P C h

    pub looks_full : (records : List Record) (base : Base) → FrontKnows P C U records base → seen.state ≢ Free → IsFull C U
    looks_full records base k ne =
        let b : NamedNow C U (next_station C (recent U)) = live_there P C h legal (next_station C (recent U)) seen sees ne in
        is_full P C h legal (live_room P C h legal records base k) b.p b.tenant b.is b.live b.station

    pub looks_free : (records : List Record) (base : Base) → FrontKnows P C U records base → 0 < C.ring → seen.state ≡ Free → ¬ IsFull C U
    looks_free records base k pos free full = let few = not_full P C h legal records base k pos seen sees free in absurd (omega (arith, few, full))

    pub looks_spent : seen.state ≡ Free → seen.tag ≡ last_tag → IsSpent C U
    looks_spent free e = next_tag_is P C h legal seen sees free ∙ e

  pub no_instr : (h : List Entry) (records : List Record) (base : Base) →
      FrontKnows P C (unit_of P C h) records base → (pc : ℕ) → pc ≡ pc_behind base records →
      instr_at P pc ≡ None → HasNoInstr P (unit_of P C h)
  no_instr h records base k pc e f = ap (instr_at P) (known_pc P C (unit_of P C h) records base (IsFolded (unit_of P C h) (rested_at base)) k ∙ sym e) ∙ f

  instr_there : (pc : ℕ) (i : Instr) → instr_at P pc ≡ Some i → instr_at P pc ≢ None
  instr_there pc i e f = let no : Some i ≡ None = sym e ∙ f in absurd (cc no)

  pub some_instr : (h : List Entry) (records : List Record) (base : Base) →
      FrontKnows P C (unit_of P C h) records base → (pc : ℕ) (i : Instr) → pc ≡ pc_behind base records →
      instr_at P pc ≡ Some i → ¬ HasNoInstr P (unit_of P C h)
  some_instr h records base k pc i e f none = instr_there pc i f (ap (instr_at P) (e ∙ sym (known_pc P C (unit_of P C h) records base (IsFolded (unit_of P C h) (rested_at base)) k)) ∙ none)

  pub queue_full : (h : List Entry) (records : List Record) (base : Base) →
      FrontKnows P C (unit_of P C h) records base → (pc : ℕ) (i : Instr) → pc ≡ pc_behind base records →
      instr_at P pc ≡ Some i → QueueSays P C (unit_of P C h) i true → HasFullQueue P C (unit_of P C h)
  queue_full h records base k pc i e f q =
      let a = found_at P pc i f in
      record {
        index = a.index;
        is_there = a.inside;
        pc = known_pc P C (unit_of P C h) records base (IsFolded (unit_of P C h) (rested_at base)) k ∙ (sym e ∙ a.pc);
        access = ap (λ (z : Instr). is_access (kind z.op)) a.is ∙ q.0;
        full = q.1;
      }

  pub queue_free : (h : List Entry) (records : List Record) (base : Base) →
      FrontKnows P C (unit_of P C h) records base → (pc : ℕ) (i : Instr) → pc ≡ pc_behind base records →
      instr_at P pc ≡ Some i → QueueSays P C (unit_of P C h) i Rattle.std.proofs.Common.false →
      ¬ HasFullQueue P C (unit_of P C h)
  queue_free h records base k pc i e f q full =
      let there : pc ≡ address full.index = e ∙ (sym (known_pc P C (unit_of P C h) records base (IsFolded (unit_of P C h) (rested_at base)) k) ∙ full.pc) in
      let one : i ≡ instr_of P full.index = same_Some i (instr_of P full.index) (sym f ∙ (ap (instr_at P) there ∙ fetched_at P full.index full.is_there)) in
      let less = q (ap (λ (z : Instr). is_access (kind z.op)) one ∙ full.access) in
      let count : how_many_accesses P (unit_of P C h) ≡ C.queue = full.full in
      absurd (omega (arith, less, count))
