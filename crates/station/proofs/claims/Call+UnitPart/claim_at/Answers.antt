use Rattle.std.proofs.Common.{◌≡◌, ℕ, sym, subst, rules}
use Rattle.instructions.specs.declared.op.Half.{Half}
use Rattle.ruu_words.specs.Fields.{half_of, index_of, predicted_of, state_of}
use Rattle.ruu_words.specs.Kinds.{IsAny}
use Rattle.station.specs.Calls.{Saw}
use Rattle.station.specs.Claiming.{IsOpenAs}
use Rattle.station.proofs.ClaimFacts.{HasInfo}
use Rattle.station.proofs.ClaimSteps.{IsOnWay, after_info, after_peek, after_recheck, answers_on, moved_at_recheck, saw}
use Rattle.station.proofs.OnItsWay.{peek_refused}
use Rattle.station.proofs.Unpacked.{closed_number, open_number}
use Rattle.station.proofs.claims.Call+UnitPart.claim_at.Goals.{After-read_info-word, After-unpack-info}
use Rattle.station.proofs.claims.Call+UnitPart.claim_at.Goals as goal

-- An open tenant on its way, and the info word that was read of it

looked : (c : After-read_info-word) → IsOnWay c.args.self.now c.read_info-word.new.self c.args.station c.unpack-tag.result.tag (HasInfo c.read_info-word.result)
looked c =
    let found = c.unpack-tag in
    let is_open = open_number found.result.state (state_of c.peek-found.result) found.ensures.state found.ensures.other (search rules) in
    after_info (after_peek c.peek-found.result c.peek-found.ensures is_open found.ensures.tag) c.read_info-word.ensures

-- The tenant was still open at the second look, so the info word is its own
rechecked : (c : After-unpack-info) → let info = c.read_info-word.result in
    IsOnWay c.args.self.now c.recheck-again.new.self c.args.station c.unpack-tag.result.tag (IsOpenAs (half_of info) (index_of info) (predicted_of info))
rechecked c =
    let hit : c.recheck-again.result ≡ c.open_word-open.result = search rules in
    after_recheck (looked (goal.at.After-unpack-info c).After-read_info-word) c.open_word-open.ensures.tag c.recheck-again.ensures hit

pub returns-then-ne : goal.returns-then-ne
returns-then-ne c =
    let v = c.args.self.now in
    let n = c.peek-found.result in
    let found = c.unpack-tag in
    let not = closed_number found.result.state (state_of n) found.ensures.state found.ensures.other (search rules) in
    record {
      same = c.peek-found.ensures.same;
      reply = peek_refused v.core.program v.core.sizes v.view.by v.view c.peek-found.new.self.view c.args.station n c.peek-found.ensures.grows not;
    }

pub recheck-again-requires-clause-seen : goal.recheck-again-requires-clause-seen
recheck-again-requires-clause-seen c =
    let way = looked (goal.at.recheck-again-requires-clause-seen c).After-read_info-word in
    subst (λ t. Saw c.read_info-word.new.self c.args.station t IsAny) (sym c.open_word-open.ensures.tag) (saw IsAny (λ t f. tt) way)

pub returns-then-again-open : goal.returns-then-again-open
returns-then-again-open c =
    let way = looked (goal.at.returns-then-again-open c).After-read_info-word in
    moved_at_recheck way c.open_word-open.ensures.tag c.recheck-again.ensures c.if-again-open.true

pub claim_open-requires : goal.claim_open-requires
claim_open-requires c =
    let info = c.read_info-word.result in
    let is = c.unpack-info.ensures in
    subst (λ (z : Half × ℕ × ℕ). Saw c.recheck-again.new.self c.args.station c.unpack-tag.result.tag (IsOpenAs z.0 z.1 z.2)) (λ j. (sym is.half j, sym is.index j, sym is.predicted j))
    (saw (IsOpenAs (half_of info) (index_of info) (predicted_of info)) (λ t f. f) (rechecked (goal.at.claim_open-requires c).After-unpack-info))

pub returns : goal.returns
returns c = answers_on c.claim_open.result (rechecked (goal.at.returns c).After-unpack-info) c.claim_open.ensures
