use Rattle.std.proofs.Common.{◌++◌, List, ℕ, ap, codes}
use Rattle.json.specs.Print.{escape_byte}
use Rattle.pw_text.proofs.Putting.{PutsText-as}
use Rattle.pw_show.specs.inner.Putting.{comma_before}
use Rattle.pw_show.proofs.Compact.{plain_in_pieces}
use Rattle.pw_show.proofs.Putting.{puts_alone}
use Rattle.pw_show.proofs.json_objects.put_json_object.Goals as goal

pub returns-in-Device : goal.returns-in-Device
unfolding escape_byte
returns-in-Device g c =
    rw c.in-Device.is (puts_alone c.without_memory.ensures
    (PutsText-as _ (ap (λ (l : List ℕ). comma_before c.args.index ++ l) (plain_in_pieces (codes "device") c.args.path.now)) c.put_head.ensures))

pub returns-in-Processor : goal.returns-in-Processor
unfolding escape_byte
returns-in-Processor g c =
    rw c.in-Processor.is (puts_alone c.without_memory-in-Processor.ensures
    (PutsText-as _ (ap (λ (l : List ℕ). comma_before c.args.index ++ l) (plain_in_pieces (codes "processor") c.args.path.now)) c.put_head-in-Processor.ensures))

pub returns-in-Method : goal.returns-in-Method
unfolding escape_byte
returns-in-Method g c =
    rw c.in-Method.is (puts_alone c.without_memory-in-Method.ensures
    (PutsText-as _ (ap (λ (l : List ℕ). comma_before c.args.index ++ l) (plain_in_pieces (codes "method") c.args.path.now)) c.put_head-in-Method.ensures))
