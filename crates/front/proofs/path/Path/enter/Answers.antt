use Rattle.front.proofs.Touches.{touched_more, touched_one}
use Rattle.front.proofs.path.Path.enter.Goals as goal

pub returns-clause-touched : goal.returns-clause-touched
returns-clause-touched c =
    let a = c.args.creators.now.touched in
    let b = c.touch.new.self.touched in
    touched_more 1 3 a b c.enter.new.self.touched (touched_one a b c.touch.ensures.touched) c.enter.ensures.touched
