-- Steps that are not allowed in the units of the example runs.
use Rattle.std.proofs.Common.{List, [], ◌∷◌, arith, ◌≡◌, ◌≢◌, ℕ, Option, Some, None, refl, sym, ap, ◌∙◌, subst}
use Rattle.std.specs.Prelude.{option_map}
use Rattle.instructions.specs.Operations.{checked_address, computed_by, jump_target, loaded}
use Rattle.instructions.specs.Programs.{instr_at, instr_of}
use Rattle.inorder.specs.declared.history.Act.TheVariants.{Claim, Finish, Load, Retire, Speculate}
use Rattle.inorder.specs.declared.history.Step.TheVariants.{Let, On}
use Rattle.inorder.specs.declared.history.Supply.{Supply}
use Rattle.inorder.specs.declared.history.Supply.TheVariants.{From, Known}
use Rattle.lsq.specs.declared.answer.Answer.TheVariants.{Blocked, Forward}
use Rattle.inorder.specs.Legal.{Allowed, Taken, reached}
use Rattle.inorder.specs.Loads.{queue_of}
use Rattle.inorder.specs.Steps.{CanRetire}
use Rattle.inorder.specs.Tenants.{Addr, AtLet, Busy, Fate, Guessed, Live, Miss, Open, Squashed, Standing, Tenant, kind_of}
use Rattle.inorder.specs.Unit.{creator, older}
use Rattle.lsq.specs.LoadRule.{answer}
use Rattle.inorder.proofs.Runs.DeadLinkRun.{dead_link, linked_elsewhere, linked_on_the_wrong_path}
use Rattle.inorder.proofs.Runs.Examples.{apart, busy_not_open, four_entries, four_stations, known, squashed_not_live, taken, two_stations}
use Rattle.inorder.proofs.Runs.LoopRun.{loop}
use Rattle.inorder.proofs.Runs.ReletRun.{job_on_the_wrong_path, relet, relets}
use Rattle.inorder.proofs.Runs.StoreRun.{bytes_and_words, forwards, load_has_address, stores_have_addresses, word_forwarded}
use Rattle.inorder.proofs.Runs.WrongPathRun.{fault_on_the_wrong_path, recovered, skips}
use Rattle.inorder.specs.declared.history.Speculation.TheVariants.{Confirm}
use Rattle.inorder.specs.Speculation.{MayConfirm}
use Rattle.inorder.specs.Memory.{sure_raw_at}
use Rattle.inorder.proofs.Runs.SpeculationRun.{doubles, eight_stations, guessed_wrong, older_unknown, passes}
use Rattle.instructions.specs.declared.op.Half.TheVariants.{Low}
use Rattle.instructions.specs.declared.op.Op.TheVariants.{Lw}

-- the fate and standing of the tenant at a position
fate_is : (o : Option Tenant) (t : Tenant) (f : Fate) → o ≡ Some t → option_map (λ u. u.fate) o ≡ Some f →
    t.fate ≡ f
fate_is o t f e h = let both : Some t.fate ≡ Some f = sym (ap (option_map (λ u. u.fate)) e) ∙ h in cc both

standing_is : (o : Option Tenant) (t : Tenant) (s : Standing) → o ≡ Some t →
    option_map (λ u. u.standing) o ≡ Some s → t.standing ≡ s
standing_is o t s e h =
    let both : Some t.standing ≡ Some s = sym (ap (option_map (λ u. u.standing)) e) ∙ h in cc both

busy_by_one : (m n : ℕ) → Busy m ≡ Busy n → m ≡ n
busy_by_one m n e = cc

open_not_addr : (a : ℕ) → Open ≢ Addr a
open_not_addr a e = cc

-- A branch that is a miss retires only after it was mended
miss_retires_not : ¬ Allowed skips four_stations (reached skips four_stations fault_on_the_wrong_path) 1 (On 0
    (Retire 0))
unfolding instr_at computed_by jump_target checked_address loaded
miss_retires_not a =
    subst (CanRetire (kind_of skips a.tenant) a.tenant.second.value) (fate_is _ a.tenant
    (Miss 0x00400008) a.is refl) a.may.can

-- The fault on the wrong path ends nothing: it is not the oldest, and squashed it is not live
wrong_path_stop_retires_not : ¬ Allowed skips four_stations (reached skips four_stations recovered) 1 (On 1
    (Retire 0))
unfolding instr_at computed_by jump_target checked_address loaded
wrong_path_stop_retires_not a = squashed_not_live (sym (standing_is _ a.tenant Squashed a.is refl) ∙ a.may.live)

-- A load waits for the address of each older live store
load_passes_no_store : ¬ Allowed forwards four_stations (reached forwards four_stations load_has_address) 1
    (On 2 Load)
unfolding instr_at computed_by jump_target checked_address loaded
load_passes_no_store a = let known = a.may.addresses.0 refl refl in open_not_addr known.0 known.1

-- A byte is not forwarded to a word: the rule names the byte store
byte_blocks_word : answer (queue_of bytes_and_words
    (reached bytes_and_words four_entries stores_have_addresses).tenants) 2 ≡ Blocked 1
unfolding instr_at computed_by jump_target checked_address loaded
byte_blocks_word = refl

-- A store without its address blocks, whatever it will be
unknown_store_blocks : answer (queue_of forwards (reached forwards four_stations load_has_address).tenants) 1 ≡
    Blocked 0
unfolding instr_at computed_by jump_target checked_address loaded
unknown_store_blocks = refl

-- The same store with address and data forwards its word
store_forwards : answer (queue_of forwards (reached forwards four_stations word_forwarded).tenants) 1 ≡ Forward 7
unfolding instr_at computed_by jump_target checked_address loaded
store_forwards = refl

-- A tenant is not claimed a second time
second_claim : ¬ Allowed relets four_entries (reached relets four_entries job_on_the_wrong_path) 3 (On 1 Claim)
unfolding instr_at computed_by jump_target checked_address loaded
second_claim a = busy_not_open 2 (sym (fate_is _ a.tenant (Busy 2) a.is refl) ∙ a.may.fate)

-- A finish is that of the caller that has the job
other_callers_finish : ¬ Allowed relets four_entries (reached relets four_entries job_on_the_wrong_path) 3 (On 1 Finish)
unfolding instr_at computed_by jump_target checked_address loaded
other_callers_finish a =
    apart 2 3 refl (busy_by_one 2 3 (sym (fate_is _ a.tenant (Busy 2) a.is refl) ∙ a.may.fate))

-- A job on the wrong path is stale once its tenant was squashed, also where the station was let again
stale_finish : ¬ Allowed relets four_entries (reached relets four_entries relet) 2 (On 1 Finish)
unfolding instr_at computed_by jump_target checked_address loaded
stale_finish a = squashed_not_live (sym (standing_is _ a.tenant Squashed a.is refl) ∙ a.may.live)

-- The wrong path creates nothing once it is squashed
wrong_path_creates : creator dead_link (reached dead_link four_entries linked_on_the_wrong_path).tenants 2 ≡
    Some 3
unfolding instr_at computed_by jump_target checked_address loaded
wrong_path_creates = refl

squashed_creates_nothing : creator dead_link (reached dead_link four_entries linked_elsewhere).tenants 2 ≡ None
unfolding instr_at computed_by jump_target checked_address loaded
squashed_creates_nothing = refl

-- With as many live tenants as stations nothing is let
abbrev ring_of_two_is_full : List Taken
ring_of_two_is_full =
    taken 0 (Let 1 0x400008 From (Known 0)) ∷
    taken 0 (Let 0 0x400004 (Known 0) (Known 0)) ∷
    []

full_ring : (by index predicted : ℕ) (first second : Supply) → ¬ Allowed loop two_stations
    (reached loop two_stations ring_of_two_is_full) by (Let index predicted first second)
unfolding instr_at computed_by jump_target checked_address loaded
full_ring by index predicted first second a = let room = a.room in absurd (omega arith)

-- With as many live loads and stores as the queue has room for, no third one is let, though a station is free
abbrev queue_of_two_is_full : List Taken
queue_of_two_is_full =
    taken 0 (Let 2 0x40000c (Known 0) (Known 0)) ∷
    taken 0 (Let 1 0x400008 (Known 0) From) ∷
    taken 0 (Let 0 0x400004 (Known 0) (Known 0)) ∷
    []

full_queue : (by predicted : ℕ) (first second : Supply) → ¬ Allowed bytes_and_words four_stations
    (reached bytes_and_words four_stations queue_of_two_is_full) by (Let 3 predicted first second)
unfolding instr_at computed_by jump_target checked_address loaded
full_queue by predicted first second a = let room = a.queue refl in absurd (omega arith)

-- A guess is no result: the load does not retire with it, were it the oldest
guess_retires_not : (n : ℕ) → ¬ Allowed doubles four_stations (reached doubles four_stations guessed_wrong) 1 (On 2 (Retire n))
unfolding instr_at computed_by jump_target checked_address loaded
guess_retires_not n a =
    subst (CanRetire (kind_of doubles a.tenant) a.tenant.second.value) (fate_is _ a.tenant (Guessed 0) a.is refl) a.may.can

-- A wrong guess is not confirmed: the store has left 7
abbrev wrong_load : Tenant
wrong_load =
    record {
      station = 2;
      tag = 1;
      index = 2;
      half = Low;
      pc = 0x400008;
      predicted = 0x40000c;
      next = 0x40000c;
      first = record { creator = None; way = AtLet; value = Some 0 };
      second = record { creator = None; way = AtLet; value = Some 0 };
      made = Some 0;
      fate = Guessed 0;
      standing = Live;
    }

wrong_guess_stays : ¬ Allowed doubles four_stations (reached doubles four_stations guessed_wrong) 1 (On 2 (Speculate Confirm))
unfolding instr_at computed_by jump_target checked_address loaded
wrong_guess_stays a =
    let ts = older (reached doubles four_stations guessed_wrong).tenants 2 in
    let m : MayConfirm doubles ts wrong_load = known (MayConfirm doubles ts) _ a.tenant wrong_load a.is refl a.may in
    let zero_is : 0 ≡ m.a = cc m.computes in
    let seven : Some 7 ≡ Some m.bytes = subst (λ z. sure_raw_at doubles ts (instr_of doubles 2) z ≡ Some m.bytes) (sym zero_is) m.read in
    let bytes : 7 ≡ m.bytes = cc seven in
    let value : 0 ≡ m.v = cc m.fate in
    apart 0 7 refl (value ∙ (m.right ∙ ap (loaded Lw) (sym bytes)))

-- No load passes a store of unknown address as Load has it, though a guess can be confirmed there
load_passes_none : ¬ Allowed passes eight_stations (reached passes eight_stations older_unknown) 1 (On 4 Load)
unfolding instr_at computed_by jump_target checked_address loaded
load_passes_none a = let known = a.may.addresses.1.0 refl refl in open_not_addr known.0 known.1
