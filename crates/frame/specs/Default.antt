-- The default frame by its bits: twenty faces of nine doubles each, centre, u and v.
use Rattle.std.specs.Prelude.{List, [], ◌∷◌, ℕ, Float}
use Rattle.std.specs.Float.{binary64}
use Rattle.std.specs.Float.Ieee.{of_bits}

-- three doubles by their bits, and what follows them
abbrev three : ℕ → ℕ → ℕ → List Float → List Float
three a b c rest = of_bits binary64 a ∷ of_bits binary64 b ∷ of_bits binary64 c ∷ rest

unfoldable pub default_frame : List Float
default_frame =
    (three 0x3fcc_26b1_17e5_62ca 0x3fe5_115c_3d0a_5206 0x3fe7_08fd_b42b_5b79
    (three 0x3ff0_ee95_9168_cccb 0xbffe_b542_ceb6_d409 0x3ff6_e98d_67e7_8d12
    (three 0x4002_984d_dadf_6395 0x3fdc_98e5_ae64_7493 0xbff1_e6b0_9e8b_a3b2
    (three 0xbfcb_61d8_3ea1_e393 0x3fc2_ebac_674a_1898 0x3fee_e635_bb84_4530
    (three 0x4004_5c57_8249_f802 0xbfc5_b452_151a_3e48 0x3fe2_dfb3_7831_c052
    (three 0x3fd0_0f03_723f_5eba 0x4004_ab73_4064_2e81 0xbfd5_c179_cb31_e0da
    (three 0x3fbb_f8a1_07ea_967a 0xbfde_cbe6_c5e2_ba48 0x3feb_d537_a62c_73a9
    (three 0x3ff7_000e_8514_91a7 0x3fff_c708_4f83_0c8c 0x3fed_61e9_1112_d2f8
    (three 0xc001_5ab5_fb3f_dfbf 0x3ff2_665e_2b6f_84e3 0x3fed_1451_32b2_7575
    (three 0x3fe7_c57b_7a34_a409 0xbfd7_0050_654c_6319 0x3fe2_12d8_b1cf_dabc
    (three 0xbfe7_7baa_28bb_5452 0x3ff9_1949_9a78_baeb 0x3fff_69fa_3adb_cb24
    (three 0xbff9_773e_f9cb_09f5 0xbffd_f7bb_a406_914c 0x3fec_d994_3401_7e74
    (three 0x3fe9_f5c9_d6ca_f609 0x3fd6_12c3_d607_012e 0x3fde_3785_8bfd_a732
    (three 0xbfee_fbdc_bccb_af2d 0xbfeb_09ee_58b1_c313 0x4002_3f58_5322_906d
    (three 0x3ff2_f84e_5dfc_2a94 0xc002_75e1_39e5_36de 0xbfd6_7f8e_8807_7826
    (three 0xbfbb_0550_0b5b_a7e4 0x3fef_579e_9220_7f77 0x3fc6_0068_87cb_b632
    (three 0xbff2_c316_b3af_bea6 0x3fd2_0315_9c85_ad20 0xc002_970c_a97b_58cb
    (three 0xc002_984d_dadf_6395 0xbfdc_98e5_ae64_7492 0x3ff1_e6b0_9e8b_a3b1
    (three 0xbfe9_d75f_b739_1835 0x3fc3_a125_10ae_86ec 0x3fe2_398f_0220_8d9c
    (three 0xbff8_60c4_2123_2776 0xbfc0_d87f_62de_612b 0xc000_ffde_0d75_a4c9
    (three 0xbfd0_0f03_723f_5ec3 0xc004_ab73_4064_2e81 0x3fd5_c179_cb31_e0d6
    (three 0xbfd2_3721_05fb_99be 0xbfeb_a93b_2b84_e1d7 0x3fda_86d3_ff8a_19bf
    (three 0xbff4_31d0_5414_54a2 0xbfe4_7ee2_108f_da17 0xc001_9ea2_adc1_14e0
    (three 0x4001_5ab5_fb3f_dfbe 0xbff2_665e_2b6f_84e5 0xbfed_1451_32b2_7579
    (three 0x3fe7_b2af_6375_a20e 0xbfe5_5ac4_5a53_e765 0xbfb4_3847_ae03_25c4
    (three 0xbfe7_fc80_b4ee_f1c8 0xbfe1_57a6_a7f7_5cdf 0xc003_97f1_0c71_c314
    (three 0x3ff9_773e_f9cb_09f3 0x3ffd_f7bb_a406_914e 0xbfec_d994_3401_7e72
    (three 0x3feb_3d47_8871_a7f3 0x3fde_3916_8b4f_8f87 0xbfcd_4d0b_9f05_f3a2
    (three 0xbfe6_3734_a270_eed4 0x3f9c_8025_00cf_56a5 0xc004_3178_4ab1_e61a
    (three 0xbff2_f84e_5dfc_2a95 0x4002_75e1_39e5_36de 0x3fd6_7f8e_8807_7826
    (three 0xbfe7_b2af_6375_a20d 0x3fe5_5ac4_5a53_e765 0x3fb4_3847_ae03_25c4
    (three 0x3fe7_fc80_b4ee_f1c5 0x3fe1_57a6_a7f7_5cd9 0x4003_97f1_0c71_c314
    (three 0x3ff9_773e_f9cb_09f4 0x3ffd_f7bb_a406_914f 0xbfec_d994_3401_7e6b
    (three 0xbfeb_3d47_8871_a7f2 0xbfde_3916_8b4f_8f89 0x3fcd_4d0b_9f05_f3a2
    (three 0x3fe6_3734_a270_eed4 0xbf9c_8025_00cf_5645 0x4004_3178_4ab1_e61a
    (three 0xbff2_f84e_5dfc_2a97 0x4002_75e1_39e5_36dd 0x3fd6_7f8e_8807_7822
    (three 0x3fbb_0550_0b5b_a7d6 0xbfef_579e_9220_7f77 0xbfc6_0068_87cb_b632
    (three 0x3ff2_c316_b3af_beaa 0xbfd2_0315_9c85_ad21 0x4002_970c_a97b_58ca
    (three 0xc002_984d_dadf_6394 0xbfdc_98e5_ae64_748c 0x3ff1_e6b0_9e8b_a3b5
    (three 0x3fe9_d75f_b739_1835 0xbfc3_a125_10ae_86ef 0xbfe2_398f_0220_8d9c
    (three 0x3ff8_60c4_2123_2776 0x3fc0_d87f_62de_6133 0x4000_ffde_0d75_a4c9
    (three 0xbfd0_0f03_723f_5ec3 0xc004_ab73_4064_2e81 0x3fd5_c179_cb31_e0db
    (three 0x3fd2_3721_05fb_99c0 0x3feb_a93b_2b84_e1d6 0xbfda_86d3_ff8a_19bf
    (three 0x3ff4_31d0_5414_549f 0x3fe4_7ee2_108f_da19 0x4001_9ea2_adc1_14e1
    (three 0x4001_5ab5_fb3f_dfbf 0xbff2_665e_2b6f_84e5 0xbfed_1451_32b2_7572
    (three 0xbfe7_c57b_7a34_a409 0x3fd7_0050_654c_6317 0xbfe2_12d8_b1cf_dabc
    (three 0x3fe7_7baa_28bb_5456 0xbff9_1949_9a78_baea 0xbfff_69fa_3adb_cb24
    (three 0xbff9_773e_f9cb_09f3 0xbffd_f7bb_a406_914e 0x3fec_d994_3401_7e71
    (three 0xbfe9_f5c9_d6ca_f60a 0xbfd6_12c3_d607_012b 0xbfde_3785_8bfd_a732
    (three 0x3fee_fbdc_bccb_af30 0x3feb_09ee_58b1_c30e 0xc002_3f58_5322_906e
    (three 0x3ff2_f84e_5dfc_2a92 0xc002_75e1_39e5_36df 0xbfd6_7f8e_8807_7822
    (three 0xbfcc_26b1_17e5_62cd 0xbfe5_115c_3d0a_5206 0xbfe7_08fd_b42b_5b79
    (three 0xbff0_ee95_9168_ccca 0x3ffe_b542_ceb6_d409 0xbff6_e98d_67e7_8d12
    (three 0x4002_984d_dadf_6395 0x3fdc_98e5_ae64_748e 0xbff1_e6b0_9e8b_a3b2
    (three 0x3fcb_61d8_3ea1_e390 0xbfc2_ebac_674a_189c 0xbfee_e635_bb84_4530
    (three 0xc004_5c57_8249_f802 0x3fc5_b452_151a_3e62 0xbfe2_dfb3_7831_c051
    (three 0x3fd0_0f03_723f_5ec7 0x4004_ab73_4064_2e80 0xbfd5_c179_cb31_e0dd
    (three 0xbfbb_f8a1_07ea_9673 0x3fde_cbe6_c5e2_ba48 0xbfeb_d537_a62c_73a9
    (three 0xbff7_000e_8514_91a8 0xbfff_c708_4f83_0c8b 0xbfed_61e9_1112_d2f8
    (three 0xc001_5ab5_fb3f_dfbf 0x3ff2_665e_2b6f_84e4 0x3fed_1451_32b2_7575
    []))))))))))))))))))))))))))))))))))))))))))))))))))))))))))))
