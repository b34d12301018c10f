use Rattle.std.proofs.Common.{◌≡◌, ◌∙◌, length, refl}
use Rattle.pw_audit.specs.inner.Looking.{cpu_by}
use Rattle.pw_audit.proofs.Leading.{found_exists}
use Rattle.pw_audit.proofs.index.find.Goals as goal

pub returns-clause-exists : goal.returns-clause-exists
returns-clause-exists c =
    let texts = c.args._paths.now in
    let path = c.args.path.now in
    let named : c.copied.result ≡ cpu_by 0 texts path.items = c.copied.ensures ∙ c.get.ensures.value ∙ c.requires path in
    rw named (found_exists texts (length texts) path.items refl)
