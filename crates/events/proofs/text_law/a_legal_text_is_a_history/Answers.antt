use Rattle.events.proofs.text_law.a_legal_text_is_a_history.Goals as goal

pub returns : goal.returns
returns c = λ meant u v text none legal. record {
  events = legal.events;
  say = legal.say;
  history = c.a_log_that_is_taken_is_a_history.ensures u v legal.events none legal.taken;
}
