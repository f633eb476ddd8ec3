-- The names of machines stand for expressions of words.
use Rattle.std.proofs.Common.{◌≡◌, subst, Option, Some, ℕ, List, [], ◌∷◌, Bool, true, false, if◌then◌else◌, bytes_eq, lit<}
use Rattle.bilv_spec.specs.Notes.{Expr}
use Rattle.notes_spec.specs.NotesLaws.{IsOfWords, MachineNamesOfWords}
use Rattle.notes_spec.specs.RvNames.{name_in, rv_table}
use Rattle.notes_spec.specs.ArmNames.{arm_table}
use Rattle.notes_spec.proofs.NotesTables.{Each}
use Rattle.bilv_spec.proofs.Decided.{none_some}

-- what each line of a table has, each name has
by_line : (P : Expr → Type 0) (b : Bool) (x e : Expr) (other : Option Expr) → P x → (other ≡ Some e → P e) → (if b then Some x else other) ≡ Some e → P e
by_line P true x e other p rest is = let x_is : x ≡ e = cc in subst P x_is p
by_line P false x e other p rest is = rest is

by_table : (P : Expr → Type 0) (table : List (List ℕ × Expr)) (w : List ℕ) (e : Expr) → Each (λ n. P n.1) table → name_in table w ≡ Some e → P e
by_table P [] w e each is = absurd (none_some Expr e is)
by_table P (n ∷ rest) w e each is = by_line P (bytes_eq w n.0) n.1 e (name_in rest w) each.0 (λ r. by_table P rest w e each.1 r) is

rv_words : Each (λ n. IsOfWords n.1) rv_table
unfolding rv_table
rv_words = (
  lit< tt,
  (
    lit< tt,
    (
      tt,
      (
        tt,
        (
          tt,
          (
            tt,
            (
              tt,
              (
                tt,
                (
                  tt,
                  (
                    tt,
                    (
                      tt,
                      (
                        tt,
                        (
                          tt,
                          (
                            tt,
                            (
                              tt,
                              (
                                tt,
                                (
                                  tt,
                                  (
                                    tt,
                                    (
                                      tt,
                                      (
                                        tt,
                                        (
                                          tt,
                                          (
                                            tt,
                                            (
                                              tt,
                                              (
                                                tt,
                                                (
                                                  tt,
                                                  (
                                                    tt,
                                                    (
                                                      tt,
                                                      (
                                                        tt,
                                                        (
                                                          tt,
                                                          (
                                                            tt,
                                                            (
                                                              tt,
                                                              (
                                                                tt,
                                                                (
                                                                  tt,
                                                                  (
                                                                    tt,
                                                                    (
                                                                      tt,
                                                                      (
                                                                        tt,
                                                                        (
                                                                          tt,
                                                                          (
                                                                            tt,
                                                                            (
                                                                              tt,
                                                                              (
                                                                                tt,
                                                                                (
                                                                                  tt,
                                                                                  (
                                                                                    tt,
                                                                                    (
                                                                                      tt,
                                                                                      (
                                                                                        tt,
                                                                                        (
                                                                                          tt,
                                                                                          (
                                                                                            tt,
                                                                                            (
                                                                                              tt,
                                                                                              (
                                                                                                tt,
                                                                                                (
                                                                                                  tt,
                                                                                                  (
                                                                                                    tt,
                                                                                                    (
                                                                                                      tt,
                                                                                                      (
                                                                                                        tt,
                                                                                                        (
                                                                                                          tt,
                                                                                                          (
                                                                                                            tt,
                                                                                                            (
                                                                                                              tt,
                                                                                                              (
                                                                                                                tt,
                                                                                                                (
                                                                                                                  tt,
                                                                                                                  (tt, (tt, (tt, (tt, (tt, (tt, (tt, (tt, (tt, tt))))))))),
                                                                                                                ),
                                                                                                              ),
                                                                                                            ),
                                                                                                          ),
                                                                                                        ),
                                                                                                      ),
                                                                                                    ),
                                                                                                  ),
                                                                                                ),
                                                                                              ),
                                                                                            ),
                                                                                          ),
                                                                                        ),
                                                                                      ),
                                                                                    ),
                                                                                  ),
                                                                                ),
                                                                              ),
                                                                            ),
                                                                          ),
                                                                        ),
                                                                      ),
                                                                    ),
                                                                  ),
                                                                ),
                                                              ),
                                                            ),
                                                          ),
                                                        ),
                                                      ),
                                                    ),
                                                  ),
                                                ),
                                              ),
                                            ),
                                          ),
                                        ),
                                      ),
                                    ),
                                  ),
                                ),
                              ),
                            ),
                          ),
                        ),
                      ),
                    ),
                  ),
                ),
              ),
            ),
          ),
        ),
      ),
    ),
  ),
)

arm_words : Each (λ n. IsOfWords n.1) arm_table
unfolding arm_table
arm_words = (
  tt,
  (
    tt,
    (
      tt,
      (
        tt,
        (
          tt,
          (
            tt,
            (
              tt,
              (
                tt,
                (
                  tt,
                  (
                    tt,
                    (tt, (tt, (tt, (tt, (tt, (tt, (tt, (tt, (tt, (tt, (tt, (tt, (tt, (tt, (tt, tt))))))))))))))),
                  ),
                ),
              ),
            ),
          ),
        ),
      ),
    ),
  ),
)

pub machine_names_of_words : MachineNamesOfWords
machine_names_of_words = (λ w e is. by_table IsOfWords rv_table w e rv_words is, λ w e is. by_table IsOfWords arm_table w e arm_words is)
