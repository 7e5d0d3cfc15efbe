-- The plain data that contracts see of the layouts of locals.
use Rattle.enc_expr.specs.Place.{maps_of}
use Rattle.enc_block.specs.Home as h
use Rattle.enc_block.specs.declared.homes.Home.{Home}

abbrev pub home_of : Home → h.Home
home_of x = record { vars = x.vars.items; now = maps_of x.now; old = maps_of x.old; nothing = maps_of x.nothing }
