mod Next
