-- A new core, and two tenants for it, of which the second waits for the first.
use Rattle.std.proofs.Common.{◌≡◌, ℕ, ◌<◌, ◌^◌, List, [], IfSome, refl, sym, subst}
use Rattle.std.specs.Prelude.{unwrap_or}
use Rattle.instructions.specs.Instruction.{fixed_next}
use Rattle.instructions.specs.Programs.{Program, address, instr_of}
use Rattle.instructions.specs.Settings.{Settings}
use Rattle.instructions.specs.declared.op.Half.TheVariants.{Low}
use Rattle.inorder.specs.declared.history.Entry.{Entry}
use Rattle.instructions.specs.Histories.{StartsWith}
use Rattle.inorder.specs.OneHistory.{Adds}
use Rattle.inorder.specs.Replies.{last_tag}
use Rattle.inorder.specs.Unit.{Sizes}
use Rattle.station.specs.declared.answers.Supply.TheVariants.{From, Known}
use Rattle.station.specs.declared.answers.Tenant.{Tenant as NewTenant}
use Rattle.station.specs.Seats.{TheCore}
use Rattle.client.specs.declared.seats.Seats.{Seats}
use Rattle.client.specs.Chains.{IsChain}
use Rattle.client.specs.Done.{HaveDone}
use Rattle.client.specs.ByHand.{AreNew}
use Rattle.client.proofs.First.{predicts as predicts_it}
use Rattle.instructions.proofs.Histories.{starts_same}

abbrev pub first_of_two : NewTenant
first_of_two = record { index = 0; half = Low; predicted = address 1; sources = (Known 0, Known 0) }

abbrev pub second_of_two : ℕ → ℕ → NewTenant
second_of_two predicted tag = record { index = 1; half = Low; predicted = predicted; sources = (From 0 tag, Known 0) }

-- at a new core nothing was done
pub nothing_done : (P : Program) (config : Settings) (core : TheCore) (s : Seats) → AreNew P config core s → HaveDone core s []
nothing_done P config core s new = record {
  opened = subst (λ h. StartsWith h core.opening) new.front_seen new.all.front_opened;
  front = none s.front.by s.front.seen new.front_seen;
  back = none s.back.by s.back.seen new.back_seen;
  one = none s.one.by s.one.seen new.one_seen;
  other = none s.other.by s.other.seen new.other_seen;
}
  where
    none : (by : ℕ) (seen : List Entry) → seen ≡ [] → Adds core.program core.sizes by [] seen []
    none by seen e = subst (λ h. Adds core.program core.sizes by [] h []) (sym e) (record { begins = starts_same []; legal = tt; one_table = refl; mine = refl })

-- the core has room for two tenants of a chain, and the second goes on where this is predicted
pub record IsSetUp (core : TheCore) (predicted : ℕ) : Type 0 where
  pub chain : IsChain core.program
  pub ring : 1 < core.sizes.ring
  pub queue : 0 < core.sizes.queue
  pub tags : core.sizes.first_tag < last_tag
  pub word : predicted < 2 ^ 32
  pub predicts : IfSome (fixed_next (instr_of core.program 1) Low (address 1)) (λ x. predicted ≡ x)

pub set_up : (P : Program) (config : Settings) (core : TheCore) (s : Seats) → AreNew P config core s → IsChain P → 1 < config.ring → 0 < config.queue → config.first_tag < last_tag
    → (predicted : ℕ) → predicted < 2 ^ 32 → predicted ≡ unwrap_or (fixed_next (instr_of P 1) Low (address 1)) 0 → IsSetUp core predicted
set_up P config core s new chain ring queue tags predicted word is = record {
  chain = subst IsChain (sym new.program) chain;
  ring = subst (λ (z : Sizes). 1 < z.ring) (sym new.sizes) ring;
  queue = subst (λ (z : Sizes). 0 < z.queue) (sym new.sizes) queue;
  tags = subst (λ (z : Sizes). z.first_tag < last_tag) (sym new.sizes) tags;
  word = word;
  predicts = subst (λ (p : Program). IfSome (fixed_next (instr_of p 1) Low (address 1)) (λ x. predicted ≡ x)) (sym new.program) (predicts_it (fixed_next (instr_of P 1) Low (address 1)) predicted is);
}
