-- The plain data that contracts see of the machine.
use Rattle.std.specs.Prelude.{List, [], ◌∷◌}
use Rattle.viper_core.specs.View.{loop_of, method_of, program_of, stmts_of}
use Rattle.viper_state.specs.View.{state_of}
use Rattle.viper_meaning.specs.Statements.{Activation}
use Rattle.viper_run.specs.View.{configuration_of}
use Rattle.viper_exec.specs.Frames as m
use Rattle.viper_exec.specs.declared.frames.Caller.{Caller}
use Rattle.viper_exec.specs.declared.frames.Frame.{Frame}
use Rattle.viper_exec.specs.declared.frames.Frame.TheVariants as frame
use Rattle.viper_exec.specs.declared.frames.Machine.{Machine}

abbrev pub caller_of : Caller → m.Caller
caller_of x = record { callee = method_of x.callee.now; targets = x.targets.now; vars = x.vars.now; old = state_of x.start; store = x.store.values.items }

abbrev pub frame_of : Frame → m.Frame
frame_of (frame.Block stmts) = m.Block (stmts_of stmts.now)
frame_of (frame.Turn w) = m.Turn (loop_of w.now)
frame_of (frame.End method turn) = m.End (method_of method.now) turn
frame_of (frame.Return caller) = m.Return (caller_of caller.value)

-- a stack, of which the top is the last, over frames below it
abbrev pub frames_over : List Frame → List m.Frame → List m.Frame
frames_over [] below = below
frames_over (x ∷ xs) below = frames_over xs (frame_of x ∷ below)

abbrev pub activation_in : Machine → Activation
activation_in x = record { program = program_of x.program.now; vars = x.vars.now; old = state_of x.start }

abbrev pub machine_of : Machine → m.Machine
machine_of x = record { activation = activation_in x; configuration = configuration_of x.configuration; frames = frames_over x.frames.items [] }
