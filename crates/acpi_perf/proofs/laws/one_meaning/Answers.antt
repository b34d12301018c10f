use Rattle.acpi_fields.proofs.Inversion.{one_number, same_read}
use Rattle.acpi_perf.specs.Objects.{control_of, domain_of}
use Rattle.acpi_perf.specs.Scales.{pss_of, tss_of}
use Rattle.acpi_perf.proofs.Meant.{control_read, domain_read, pss_read, tss_read}
use Rattle.acpi_perf.proofs.laws.one_meaning.Goals as goal

pub returns-clause-pss : goal.returns-clause-pss
returns-clause-pss c = λ width object xs ys a b. same_read (pss_of width object) xs ys (pss_read width object xs a) (pss_read width object ys b)

pub returns-clause-tss : goal.returns-clause-tss
returns-clause-tss c = λ width object xs ys a b. same_read (tss_of width object) xs ys (tss_read width object xs a) (tss_read width object ys b)

pub returns-clause-control : goal.returns-clause-control
returns-clause-control c = λ object x y a b. same_read (control_of object) x y (control_read object x a) (control_read object y b)

pub returns-clause-limit : goal.returns-clause-limit
returns-clause-limit c = λ width object m n a b. one_number width object m n a.means b.means

pub returns-clause-domain : goal.returns-clause-domain
returns-clause-domain c = λ width object x y a b. same_read (domain_of width object) x y (domain_read width object x a) (domain_read width object y b)
