use Rattle.std.proofs.Common.{◌∙◌, sym}
use Rattle.pw_lint.specs.Devices.{is_device, is_device_itself}
use Rattle.pw_lint.proofs.Given.{none_there, some_there}
use Rattle.pw_lint.proofs.devices.is_device.Goals as goal

pub returns-in_default : goal.returns-in_default
unfolding is_device
returns-in_default c = sym (none_there is_device_itself c.args.space.now c.args.path.now.segs c.in_default.ensures)

pub returns : goal.returns
unfolding is_device
returns c =
    c.is_device_itself.ensures ∙ sym (some_there is_device_itself c.args.space.now c.args.path.now.segs c.in-Some.placed.now
    c.placed-objects.ensures.distinct c.in-Some.ensures)
