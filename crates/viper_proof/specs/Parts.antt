-- Why nothing is told of a file, by the fault of a part.
use Rattle.viper_file.specs.declared.fault.ViperFault.{ViperFault}
use Rattle.viper_file.specs.declared.fault.ViperFault.TheVariants as file
use Rattle.unit_proof.specs.declared.faults.CertificateFault.{CertificateFault}
use Rattle.unit_proof.specs.declared.faults.CertificateFault.TheVariants as certificate
use Rattle.viper_proof.specs.declared.faults.Unproved.{Unproved}
use Rattle.viper_proof.specs.declared.faults.Unproved.TheVariants.{Memory, Read, Refused}

abbrev pub unproved_of_file : ViperFault → Unproved
unproved_of_file file.Memory = Memory
unproved_of_file (file.Refused r) = Refused r

abbrev pub unproved_of_certificates : CertificateFault → Unproved
unproved_of_certificates certificate.Memory = Memory
unproved_of_certificates certificate.Read = Read
