-- The text of the code of worked examples, which was written by hand.
use Rattle.std.specs.Prelude.{ℕ, List, [], ◌∷◌, ◌++◌, length, codes}
use Rattle.boogie_grammar.specs.Grammar.{local_names}
use Rattle.boogie_grammar.specs.Printed.{Naming, naming, expr_text, stmts_text, locals_text}
use Rattle.enc_expr.specs.Code.{Code}
use Rattle.enc_expr.specs.Emits.{temporaries}
use Rattle.enc_expr.specs.Pieces.{Operand}
use Rattle.enc_expr.specs.Worked.{Example, piece}

-- of the locals that the place of the examples names: variables, the present state and the old one
abbrev pub names : List (List ℕ)
names =
    codes "v$x" ∷ codes "v$y" ∷ codes "v$n" ∷ codes "v$b" ∷
    codes "h$h" ∷ codes "h$g" ∷ codes "h$f" ∷ codes "m$f" ∷ codes "m$g" ∷ codes "m$h" ∷
    codes "a$P" ∷ codes "a$R" ∷ codes "a$Q" ∷ codes "c$Q" ∷ codes "c$P" ∷ codes "c$R" ∷
    codes "oh$g" ∷ codes "oh$f" ∷ codes "oh$h" ∷ codes "om$g" ∷ codes "om$f" ∷ codes "om$h" ∷
    codes "oa$R" ∷ codes "oa$Q" ∷ codes "oa$P" ∷ codes "oc$P" ∷ codes "oc$Q" ∷ codes "oc$R" ∷ []

abbrev pub names_in : Code Operand → Naming
names_in m = naming (names ++ local_names (temporaries (length names) m.locals))

-- the new locals and the statements
abbrev pub code_text : Example → List ℕ
code_text x = locals_text (temporaries (length names) (piece x).locals) ++ stmts_text (names_in (piece x)) (piece x).stmts

-- the value expression
abbrev pub value_text : Example → List ℕ
value_text x = expr_text (names_in (piece x)) (piece x).value.expr

-- ---- the texts

abbrev pub field_text : List ℕ
field_text = codes "assert {:msg \"1:33 1:42 null\"} (v$x != null);\n" ++ codes "assert {:msg \"1:33 1:42 perm\"} (m$f[v$x] != 0.0);\n"

-- each side under its guard
abbrev pub guarded_text : List ℕ
guarded_text =
    codes "var t$28: bool;\n" ++ codes "var t$29: bool;\n" ++ codes "var t$30: bool;\n" ++ codes "var t$31: bool;\n" ++
    codes "t$28 := v$b;\n" ++ codes "t$29 := (t$28 && (v$n > 0));\n" ++ codes "t$30 := (t$28 && (! t$29));\n" ++
    codes "if (t$29) {\n" ++ codes "assert {:msg \"6:3 6:26 null\"} (v$x != null);\n" ++ codes "assert {:msg \"6:3 6:26 perm\"} (m$f[v$x] != 0.0);\n" ++ codes "} else {\n" ++ codes "}\n" ++
    codes "if (t$30) {\n" ++ codes "assert {:msg \"6:3 6:36 null\"} (v$x != null);\n" ++ codes "assert {:msg \"6:3 6:36 perm\"} (m$f[v$x] != 0.0);\n" ++ codes "} else {\n" ++ codes "}\n" ++
    codes "t$31 := (! (t$28 && (if t$29 then (h$f[v$x] > 0) else (h$f[v$x] > 1))));\n"

-- the tests, copies of all maps, the instance taken from them, its content taken apart, and the inner expression
abbrev pub opened_text : List ℕ
opened_text =
    codes "var t$28: [Ref]bool;\n" ++ codes "var t$29: [Ref]int;\n" ++ codes "var t$30: [Ref]Ref;\n" ++
    codes "var t$31: [Ref]real;\n" ++ codes "var t$32: [Ref]real;\n" ++ codes "var t$33: [Ref]real;\n" ++
    codes "var t$34: [int, Ref]real;\n" ++ codes "var t$35: [Ref]real;\n" ++ codes "var t$36: [Ref, int]real;\n" ++
    codes "var t$37: [int, Ref]Snap;\n" ++ codes "var t$38: [Ref]Snap;\n" ++ codes "var t$39: [Ref, int]Snap;\n" ++
    codes "var t$40: Snap;\n" ++ codes "var t$41: int;\n" ++
    codes "assert {:msg \"6:3 6:20 perm\"} (a$P[v$x] >= 1.0);\n" ++
    codes "t$28 := h$g;\n" ++ codes "t$29 := h$f;\n" ++ codes "t$30 := h$h;\n" ++ codes "t$31 := m$g;\n" ++ codes "t$32 := m$f;\n" ++ codes "t$33 := m$h;\n" ++
    codes "t$34 := a$Q;\n" ++ codes "t$35 := a$P;\n" ++ codes "t$36 := a$R;\n" ++ codes "t$37 := c$Q;\n" ++ codes "t$38 := c$P;\n" ++ codes "t$39 := c$R;\n" ++
    codes "t$35[v$x] := (t$35[v$x] - 1.0);\n" ++ codes "t$40 := t$38[v$x];\n" ++
    codes "assume (v$x != null);\n" ++ codes "havoc t$41;\n" ++ codes "assume (t$40 == sInt(t$41));\n" ++
    codes "assume ((t$32[v$x] != 0.0) ==> (t$29[v$x] == t$41));\n" ++ codes "t$29[v$x] := t$41;\n" ++
    codes "assume (t$32[v$x] >= 0.0);\n" ++ codes "t$32[v$x] := (t$32[v$x] + 1.0);\n" ++ codes "assume (t$32[v$x] <= 1.0);\n" ++
    codes "assert {:msg \"6:3 6:30 null\"} (v$x != null);\n" ++ codes "assert {:msg \"6:3 6:30 perm\"} (t$32[v$x] != 0.0);\n"
