use Rattle.std.proofs.Common.{◌≡◌, ◌∙◌, subst, rules}
use Rattle.std.specs.Vec.{with_items}
use Rattle.std.proofs.lemmas.List.{with_items_is}
use Rattle.pw_base.specs.InMemory.{FilesHeld, counted}
use Rattle.pw_base.specs.contracts.memory_files.MemoryFiles.{the_view}
use Rattle.pw_base.proofs.Counting.{IsFailed, failed_there, failed_nowhere}
use Rattle.pw_base.proofs.memory_files.MemoryFilesFiles.read.Goals as goal

-- no file has the name
nowhere : (c : goal.After-self-then-not-count_fault-1) → IsFailed c.args.name.now c.args.self.now (the_view (record c.self.inside {
  files = with_items c.self.inside.files c.count_fault.new.files;
  calls = c.saturating_add-self-inside.result;
  absent = c.saturating_add-self-inside-then-not-count_fault.result;
}))
nowhere c =
    let before = the_view c.self.inside in
    let after = the_view (record c.self.inside {
      files = with_items c.self.inside.files c.count_fault.new.files;
      calls = c.saturating_add-self-inside.result;
      absent = c.saturating_add-self-inside-then-not-count_fault.result;
    }) in
    let files : after.files ≡ counted c.args.name.now before.files =
    with_items_is c.self.inside.files c.count_fault.new.files (search rules) ∙ (search rules) in
    subst (λ (s : FilesHeld). IsFailed c.args.name.now s after) c.self.view_is
    (failed_nowhere c.args.name.now before after files c.saturating_add-self-inside-then-not-count_fault.ensures (search rules) (search rules))

pub returns-then-not-count_fault-clause-keeps : goal.returns-then-not-count_fault-clause-keeps
returns-then-not-count_fault-clause-keeps c = (nowhere c).keeps

pub returns-then-not-count_fault-clause-failed : goal.returns-then-not-count_fault-clause-failed
returns-then-not-count_fault-clause-failed c = (nowhere c).failed

pub returns-then-not-count_fault-clause-others : goal.returns-then-not-count_fault-clause-others
returns-then-not-count_fault-clause-others c = (nowhere c).others

-- a file has the name
there : (c : goal.Else-not-count_fault) → IsFailed c.args.name.now c.args.self.now (the_view (record c.self.inside {
  files = with_items c.self.inside.files c.count_fault.new.files;
  calls = c.saturating_add-self-inside.result;
}))
there c =
    let before = the_view c.self.inside in
    let after = the_view (record c.self.inside {
      files = with_items c.self.inside.files c.count_fault.new.files;
      calls = c.saturating_add-self-inside.result;
    }) in
    let files : after.files ≡ counted c.args.name.now before.files =
    with_items_is c.self.inside.files c.count_fault.new.files (search rules) ∙ (search rules) in
    subst (λ (s : FilesHeld). IsFailed c.args.name.now s after) c.self.view_is
    (failed_there c.args.name.now before after files (search rules) (search rules) (search rules))

pub returns-else-not-count_fault-clause-keeps : goal.returns-else-not-count_fault-clause-keeps
returns-else-not-count_fault-clause-keeps c = (there c).keeps

pub returns-else-not-count_fault-clause-failed : goal.returns-else-not-count_fault-clause-failed
returns-else-not-count_fault-clause-failed c = (there c).failed

pub returns-else-not-count_fault-clause-others : goal.returns-else-not-count_fault-clause-others
returns-else-not-count_fault-clause-others c = (there c).others
