mod ArgumentLaws
