use Rattle.std.proofs.Common.{◌∙◌, arith}
use Rattle.ruu_words.specs.Fields.{state_of}
use Rattle.station.proofs.AskSteps.{asked_from, behind_link, can_take, draft_found, from_small, is_delivered, is_linked, of_small}
use Rattle.station.proofs.Calls.{caller_at, legal_at}
use Rattle.station.proofs.Unpacked.{made_number, unmade_number}
use Rattle.station.proofs.wakeup.Call+FrontPart.ask_creator.Goals as goal

pub link_word-link-requires-clause-producer : goal.link_word-link-requires-clause-producer
link_word-link-requires-clause-producer c =
    let small = from_small c.requires.may (legal_at c.self.invariant c.self.view_is) in
    omega arith

pub link_word-link-requires-clause-consumer : goal.link_word-link-requires-clause-consumer
link_word-link-requires-clause-consumer c =
    let small = of_small c.requires.may (legal_at c.self.invariant c.self.view_is) in
    omega arith

pub waiting_word-old-requires : goal.waiting_word-old-requires
waiting_word-old-requires c =
    let small = of_small c.requires.may (legal_at c.self.invariant c.self.view_is) in
    omega arith

pub look_at_creator-found-requires-clause-draft : goal.look_at_creator-found-requires-clause-draft
look_at_creator-found-requires-clause-draft c =
    let r = behind_link c.store_link.ensures (caller_at c.self.invariant c.self.view_is) c.requires.may in
    r.asked.draft

pub look_at_creator-found-requires-clause-asked : goal.look_at_creator-found-requires-clause-asked
look_at_creator-found-requires-clause-asked c =
    let r = behind_link c.store_link.ensures (caller_at c.self.invariant c.self.view_is) c.requires.may in
    asked_from r

pub returns-then-not-shows_value : goal.returns-then-not-shows_value
returns-then-not-shows_value c =
    let r = behind_link c.store_link.ensures (caller_at c.self.invariant c.self.view_is) c.requires.may in
    let state = c.unpack-state in
    is_linked r c.look_at_creator-found.result c.look_at_creator-found.ensures
    (unmade_number state.result.state (state_of c.look_at_creator-found.result) state.ensures.state state.ensures.other (c.shows_value.ensures.unmade c.if-not-shows_value.true))

pub take_value-requires-clause-draft : goal.take_value-requires-clause-draft
take_value-requires-clause-draft c =
    let r = behind_link c.store_link.ensures (caller_at c.self.invariant c.self.view_is) c.requires.may in
    draft_found r c.look_at_creator-found.result c.look_at_creator-found.ensures

pub take_value-requires-clause-answer : goal.take_value-requires-clause-answer
take_value-requires-clause-answer c =
    let r = behind_link c.store_link.ensures (caller_at c.self.invariant c.self.view_is) c.requires.may in
    let state = c.unpack-state in
    can_take r c.look_at_creator-found.result c.look_at_creator-found.ensures
    (made_number state.result.state (state_of c.look_at_creator-found.result) state.ensures.state state.ensures.other (c.shows_value.ensures.made c.if-not-shows_value.false))
    c.waiting_word-old.ensures.tag (c.value_word-new.ensures.value ∙ state.ensures.value)

pub returns : goal.returns
returns c =
    let r = behind_link c.store_link.ensures (caller_at c.self.invariant c.self.view_is) c.requires.may in
    let state = c.unpack-state in
    is_delivered r c.look_at_creator-found.result c.look_at_creator-found.ensures c.waiting_word-old.result c.take_value.result
    (made_number state.result.state (state_of c.look_at_creator-found.result) state.ensures.state state.ensures.other (c.shows_value.ensures.made c.if-not-shows_value.false))
    c.waiting_word-old.ensures.tag c.take_value.ensures
