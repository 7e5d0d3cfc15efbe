use Rattle.std.proofs.Common.{◌≡◌, false, refl}
use Rattle.run_file.specs.Progress.{is_headed}
use Rattle.run_file.specs.declared.reader.ViperStage.{ViperStage}
use Rattle.run_file.specs.declared.reader.ViperStage.TheVariants as stage
use Rattle.run_file.proofs.reader.ViperScopedLineReader.read_header.Goals as goal

-- only the header is not read yet
before_header : (g : ViperStage) → is_headed g ≡ false → g ≡ stage.Header
before_header stage.Header h = refl
before_header stage.Opening h = absurd cc
before_header stage.Filling h = absurd cc
before_header stage.Choosing h = absurd cc

pub read_header-requires : goal.read_header-requires
read_header-requires c = before_header c.args.self.now.reader.stage c.requires
