-- One hexagon boundary with a crossing point, as the source gives it, bit for bit.
use Rattle.std.specs.Prelude.{[], ◌∷◌, ◌++◌}
use Rattle.reply.specs.Replies.{Reply, answer, zeros}

-- the hexagon of level 1 on face 0 at 0,0,3: seven points, of which the fifth is a crossing point on the edge to face 1, and room for five more
abbrev pub crossed : Reply
crossed =
    answer
    ((7 ∷
    0 ∷ 0xbff8_0000_0000_0000 ∷ 0xc033_eb28_56ff_771a ∷ 1 ∷
    0 ∷ 0xc018_0000_0000_0000 ∷ 0xc033_0d74_7fbc_b4b5 ∷ 1 ∷
    0 ∷ 0xc022_0000_0000_0000 ∷ 0xc036_8443_dcc7_be4a ∷ 1 ∷
    0 ∷ 0xc01e_0000_0000_0000 ∷ 0xc03a_d8c7_1115_8a45 ∷ 1 ∷
    0 ∷ 0xc014_ffff_ffff_fffe ∷ 0xc03b_47a0_fcb6_eb78 ∷ 2 ∷
    1 ∷ 0xc012_0000_0000_0000 ∷ 0x4039_1d5f_6290_057a ∷ 1 ∷
    0 ∷ 0x0000_0000_0000_0000 ∷ 0xc038_3fab_8b4d_4315 ∷ 1 ∷ []) ++ zeros 20)
