-- Why nothing is told of a text, by the fault of its certificates.
use Rattle.boogie_file.specs.declared.trouble.BoogieTrouble.{BoogieTrouble}
use Rattle.boogie_file.specs.declared.trouble.BoogieTrouble.TheVariants.{Memory, Read}
use Rattle.unit_proof.specs.declared.faults.CertificateFault.{CertificateFault}
use Rattle.unit_proof.specs.declared.faults.CertificateFault.TheVariants as certificate

abbrev pub trouble_of : CertificateFault → BoogieTrouble
trouble_of certificate.Memory = Memory
trouble_of certificate.Read = Read
