use Rattle.std.proofs.Common.{◌≡◌, ◌∙◌, ap, sym}
use Rattle.json.specs.Print.{escape_byte}
use Rattle.aml_data.specs.declared.data.Data.{Data}
use Rattle.pw_show.specs.Json.{Told, told}
use Rattle.pw_show.specs.inner.Pieces.{kind_text}
use Rattle.pw_show.proofs.Told.{told-Int, told-Ones, told-Revision, told-Text, told-Buffer, told-Package, told-counted, told-Path}
use Rattle.pw_show.proofs.json_values.kind_of.Goals as goal

kind_is : (v w : Data) (x : Told) → v ≡ w → told w ≡ x → kind_text x.kind ≡ kind_text (told v).kind
kind_is v w x is so = sym (ap (λ (t : Told). kind_text t.kind) (ap told is ∙ so))

pub returns-in-Int : goal.returns-in-Int
unfolding escape_byte
returns-in-Int c = kind_is _ _ _ c.in-Int.is (told-Int c.in-Int.field-0)

pub returns-in-Ones : goal.returns-in-Ones
unfolding escape_byte
returns-in-Ones c = kind_is _ _ _ c.in-Ones.is told-Ones

pub returns-in-Revision : goal.returns-in-Revision
unfolding escape_byte
returns-in-Revision c = kind_is _ _ _ c.in-Revision.is told-Revision

pub returns-in-Text : goal.returns-in-Text
unfolding escape_byte
returns-in-Text c = kind_is _ _ _ c.in-Text.is (told-Text c.in-Text.field-0)

pub returns-in-Buffer : goal.returns-in-Buffer
unfolding escape_byte
returns-in-Buffer c = kind_is _ _ _ c.in-Buffer.is (told-Buffer c.in-Buffer.field-0.size c.in-Buffer.field-0.bytes)

pub returns-in-Package : goal.returns-in-Package
unfolding escape_byte
returns-in-Package c = kind_is _ _ _ c.in-Package.is (told-Package c.in-Package.count c.in-Package.elements)

pub returns-in-VarPackage : goal.returns-in-VarPackage
unfolding escape_byte
returns-in-VarPackage c = kind_is _ _ _ c.in-VarPackage.is (told-counted c.in-VarPackage.field-0)

pub returns-in-Path : goal.returns-in-Path
unfolding escape_byte
returns-in-Path c = kind_is _ _ _ c.in-Path.is (told-Path c.in-Path.field-0)
