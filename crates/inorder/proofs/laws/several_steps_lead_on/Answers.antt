use Rattle.inorder.proofs.OneCaller.Sequences.{committed_on, leads_more, plain_on, reach_on, sound_of}
use Rattle.inorder.proofs.laws.several_steps_lead_on.Goals as goal

pub returns-clause-lead : goal.returns-clause-lead
returns-clause-lead c = λ p sizes by.
    record {
      reached = λ U V steps r l. reach_on p sizes by U steps V r l;
      committed = λ U V steps r l q. committed_on p sizes by U steps V l (sound_of p sizes U r) q;
    }

pub returns-clause-on : goal.returns-clause-on
returns-clause-on c = λ p sizes by U V W more steps a b. leads_more p sizes by U V W more steps a b

pub returns-clause-plain : goal.returns-clause-plain
returns-clause-plain c = λ p sizes by U V steps l a. plain_on p sizes by U steps V l a
