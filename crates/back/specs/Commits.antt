-- What `commit` answers.
use Rattle.std.specs.Prelude.{◌≡◌, ℕ, suc, true, false, List, [], ◌∷◌, None, Some, IsSome}
use Rattle.instructions.specs.Programs.{Program, instr_at}
use Rattle.instructions.specs.declared.stop.Stop.{Stop}
use Rattle.instructions.specs.declared.stop.Stop.TheVariants.{BadPc}
use Rattle.inorder.specs.declared.history.Act.TheVariants.{Retire}
use Rattle.inorder.specs.declared.history.Event.{Event}
use Rattle.inorder.specs.declared.history.Event.TheVariants.{Does, Refuses}
use Rattle.inorder.specs.declared.history.Refusal.TheVariants.{Empty as IsEmptyNow, NotDone as IsNotDoneNow}
use Rattle.inorder.specs.declared.history.Step.TheVariants.{On}
use Rattle.inorder.specs.Committed.{commits}
use Rattle.inorder.specs.OneHistory.{Adds}
use Rattle.inorder.specs.Replies.{Has}
use Rattle.inorder.specs.Runs.{stop}
use Rattle.inorder.specs.Tenants.{Retired as HasRetired, Stopped, Tenant, is_first}
use Rattle.back.specs.Backs.{TheBack, back_state, unit_in}
use Rattle.back.specs.declared.answers.Commit.{Commit}
use Rattle.back.specs.declared.answers.Commit.TheVariants.{Empty, Ended, Half, NotDone, Retired}

-- The back has added these events to what it has seen
abbrev pub BackAdds : TheBack → TheBack → List Event → Type 0
BackAdds old new events = Adds old.core.program old.core.sizes old.by old.seen new.seen events

-- The back had not ended, and there was an instruction at its pc
pub record WentOn (old : TheBack) : Type 0 where
  pub not_ended : old.ended ≡ None
  pub instr : IsSome (instr_at old.core.program (back_state old).pc)

-- A tenant with this pc that has committed, and with which its instruction is whole
pub record IsCommitted (P : Program) (pc : ℕ) (t : Tenant) : Type 0 where
  pub commits_it : commits t ≡ true
  pub whole : is_first P t ≡ false
  pub pc_is : t.pc ≡ pc

-- A first half with this pc that has retired
pub record IsRetiredHalf (P : Program) (pc : ℕ) (t : Tenant) : Type 0 where
  pub standing : t.standing ≡ HasRetired
  pub first : is_first P t ≡ true
  pub pc_is : t.pc ≡ pc

-- A tenant retired and committed: the instruction at the pc was run, and n is the count after it
pub record HasCommitted (old new : TheBack) (pc n : ℕ) : Type 0 where
  pub went_on : WentOn old
  pub not_ended : new.ended ≡ None
  pub p : ℕ
  pub made : ℕ
  pub tenant : Has (unit_in new.core new.seen) p (IsCommitted old.core.program pc)
  pub adds : BackAdds old new (Does (On p (Retire made)) ∷ [])
  pub n_is : n ≡ (back_state new).count
  pub one_more : n ≡ suc (back_state old).count

-- The first half of the instruction at the pc retired: the count, the pc, the registers and memory
-- stay those before the instruction until its second half retires
pub record HasHalved (old new : TheBack) (pc : ℕ) : Type 0 where
  pub went_on : WentOn old
  pub not_ended : new.ended ≡ None
  pub p : ℕ
  pub made : ℕ
  pub tenant : Has (unit_in new.core new.seen) p (IsRetiredHalf old.core.program pc)
  pub adds : BackAdds old new (Does (On p (Retire made)) ∷ [])
  pub pc_is : pc ≡ (back_state old).pc
  pub state : back_state new ≡ back_state old

-- The commit was refused, and nothing was committed
pub record WasRefused (old new : TheBack) (event : Event) : Type 0 where
  pub went_on : WentOn old
  pub not_ended : new.ended ≡ None
  pub adds : BackAdds old new (event ∷ [])
  pub state : back_state new ≡ back_state old

-- The tenant is a stop with this code, and has retired
pub record IsRetiredStopOf (code : Stop) (t : Tenant) : Type 0 where
  pub standing : t.standing ≡ HasRetired
  pub fate : t.fate ≡ Stopped code

-- How the back ended: before this call, or where there is no instruction, or a stop retired
pub data HowEnded (old new : TheBack) (code : Stop) : Type 0 where
  Before : old.ended ≡ Some code → new ≡ old → HowEnded old new code
  Nowhere : old.ended ≡ None → code ≡ BadPc → instr_at old.core.program (back_state old).pc ≡ None →
      new ≡ record old { ended = Some BadPc } → HowEnded old new code
  Stops : WentOn old → (p made : ℕ) → Has (unit_in new.core new.seen) p (IsRetiredStopOf code) →
      BackAdds old new (Does (On p (Retire made)) ∷ []) → HowEnded old new code

-- The back has ended, with the code with which the machine in order stops there
pub record HasEndedWith (old new : TheBack) (code : Stop) : Type 0 where
  pub ended : new.ended ≡ Some code
  pub how : HowEnded old new code
  pub state : back_state new ≡ back_state old
  pub stops : stop new.core.program (back_state new).count ≡ Some code

-- The answers of `commit`, each with what it says
abbrev pub CommitAnswers : TheBack → TheBack → Commit → Type 0
CommitAnswers old new (Retired pc n) = HasCommitted old new pc n
CommitAnswers old new (Half pc) = HasHalved old new pc
CommitAnswers old new NotDone = WasRefused old new (Refuses IsNotDoneNow)
CommitAnswers old new Empty = WasRefused old new (Refuses IsEmptyNow)
CommitAnswers old new (Ended code) = HasEndedWith old new code
