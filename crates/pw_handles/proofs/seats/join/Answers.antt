use Rattle.pw_handles.proofs.seats.join.Goals as goal

pub joined-first-requires : goal.joined-first-requires
joined-first-requires c = rw (c.replace.ensures.value, c.replace-2.ensures.value) c.requires
