-- Lines and fields, read by computation alone.
use Rattle.std.proofs.Common.{◌≡◌, [], ◌∷◌, refl, Some, None}
use Rattle.std.specs.Prelude.{codes}
use Rattle.pw_script.specs.declared.wish.Verb.TheVariants as verbs
use Rattle.pw_script.specs.Forms.{said}

bearing : said (codes "idle" ∷ codes "003" ∷ codes "60" ∷ []) ≡ Some (verbs.IdleBearing, Some 3, Some 60)
bearing = refl

large : said (codes "idle" ∷ codes "4294967296" ∷ []) ≡ Some (verbs.Idle, None, Some 0)
large = refl

no_form : said (codes "sleep" ∷ []) ≡ None
no_form = refl
