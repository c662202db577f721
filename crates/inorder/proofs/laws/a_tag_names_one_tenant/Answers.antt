use Rattle.inorder.specs.Legal.{reached}
use Rattle.inorder.specs.Unit.{recent}
use Rattle.inorder.proofs.Tags.{names_one, tagged}
use Rattle.inorder.proofs.laws.a_tag_names_one_tenant.Goals as goal

pub returns : goal.returns
returns c = λ p sizes history allowed q r t u. names_one sizes (recent (reached p sizes history)) q r t u (tagged p sizes history allowed)
